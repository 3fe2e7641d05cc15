-- Points, computed: an element to which the law of a part applies, and one with a number that is no word, which is not read back. Assumes nothing.
use Prim.Native.Char.{code}
use Prim.Native.Nat.{ℕ, ◌+◌}
use mathlib.Core.Path.{◌≡◌, refl}
use mathlib.Core.Bool.{true}
use mathlib.Core.List.{List, [], ◌∷◌}
use native.Mathlib.Omega.{arith}
use lib.Dec.{leb}
use lib.ListN.{replicate, set}
use borrow.Author.Tests.{leb-true}
use Rattle.base_words.specs.All.{all}
use Rattle.base_words.specs.Each.{each, joined}
use Rattle.base_words.specs.Pick.{if◌then◌or_else◌}
use Rattle.base_words.specs.Text.{bytes}
use Rattle.base_words.specs.Words.{at, greatest}
use Rattle.base_words.proofs.ListLaws.{each_at}
use Rattle.base_kinds.specs.Kinds.{kind_of, used, task_rcv}
use Rattle.base_kinds.specs.Moves.{na_c}
use Rattle.base_table.specs.Places.{kind_place, entries_place, exits_place, condition_place, message_place, assignments_place, element_words, equals, plus, binding, a_field}
use Rattle.check_limits.specs.Limits.{zeros, things, operand_fits, expression_fits, bind_fits, item_fits, condition_fits, message_fits, assignment_fits, count_fits, edge_fits, edges_fit, task_fits, conditions_fit, messages_fit, assignments_fit, parts_fit, element_fits}
use Rattle.text_lexer.specs.Lexer.{is_blank, is_word, is_sign, token_of, token_here, token_at, if_word, if_sign, if_assign}
use Rattle.base_bytes.specs.Bytes.{among, between, is_letter, is_digit, past}
use Rattle.text_numerals.specs.Numerals.{value_from, leading_zero, number_of, is_field_letter, field_behind, field_from, field_of, as_number, as_field, operand_of}
use Rattle.base_bytes.specs.Bytes.{same_bytes}
use Rattle.text_readers.specs.Reading.{Refused, if_at, onward, ◌then◌, sign_at, assign_at, keep_number, number, field, keep_operand, operand, mode_named, keep_mode, mode}
use Rattle.text_parts.specs.Parts.{condition, task_part, part_of}
use Rattle.write_decimals.specs.Decimals.{shown_from, shown}
use Rattle.write_shown.specs.Shown.{lead, separated, shown_field, shown_operand, shown_pair, shown_expression, shown_condition, shown_mode, shown_assignment, shown_assignments, shown_task, shown_part}
use Rattle.proof_roundtrip.specs.Trip.{Trip, behind_part, region_of}
use Rattle.proof_roundtrip.proofs.PartTrips.{part_trip}

abbrev stored : List ℕ → ℕ → List ℕ → List ℕ
stored x p [] = x
stored x p (v ∷ vs) = stored (set x p v) (p + 1) vs

-- taskRcv(7,16,na_c,n=d15,{d0:=d1+4294967295},15:<?d3>,48)
abbrev sample : ℕ → List ℕ
sample n =
    stored (stored (stored (stored (stored (stored (replicate element_words 0) kind_place (task_rcv ∷ 16 ∷ na_c ∷ [])) entries_place (1 ∷ 7 ∷ [])) exits_place (1 ∷ 48 ∷ []))
    (condition_place 0) (equals ∷ 0 ∷ n ∷ a_field ∷ 15 ∷ []))
    (message_place 0) (15 ∷ 1 ∷ binding ∷ a_field ∷ 3 ∷ []))
    assignments_place (1 ∷ 0 ∷ plus ∷ a_field ∷ 1 ∷ 0 ∷ greatest ∷ [])

pub sample_fits : element_fits (sample 7) ≡ true
unfolding all if◌then◌or_else◌ kind_of used zeros things operand_fits expression_fits bind_fits item_fits condition_fits message_fits assignment_fits count_fits edge_fits edges_fit task_fits conditions_fit messages_fit assignments_fit parts_fit element_fits
sample_fits = refl

sample_words : each (λ w. leb w greatest) (sample 7) ≡ true
unfolding each
sample_words = refl

-- the law applies to it
pub sample_trip : Trip (sample 7) (part_of (code "N")) (shown_part (code "N") (sample 7)) (behind_part (code "N")) (region_of (code "N"))
sample_trip =
    part_trip (sample 7) (λ i. leb-true (at (sample 7) i) greatest (each_at (λ w. leb w greatest) (sample 7) 0 sample_words refl i)) sample_fits (code "N") 1 (omega arith) row
    (λ e. omega (arith, e))
  where
    row : code "N" ≡ at (kind_of task_rcv).parts 1
    row = unfold kind_of in refl

pub sample_text : shown_part (code "N") (sample 7) ≡ bytes "16,na_c,7=d15,{d0:=d1+4294967295}"
unfolding if◌then◌or_else◌ joined shown_from shown lead separated shown_field shown_operand shown_pair shown_expression shown_condition shown_mode shown_assignment shown_assignments shown_task shown_part
sample_text = refl

-- a number above the words: within the limits as they stand, but refused where it stands in its own text
pub large_fits : element_fits (sample 4294967296) ≡ true
unfolding all if◌then◌or_else◌ kind_of used zeros things operand_fits expression_fits bind_fits item_fits condition_fits message_fits assignment_fits count_fits edge_fits edges_fit task_fits conditions_fit messages_fit assignments_fit parts_fit element_fits
large_fits = refl

pub large_text : shown_part (code "N") (sample 4294967296) ≡ bytes "16,na_c,4294967296=d15,{d0:=d1+4294967295}"
unfolding if◌then◌or_else◌ joined shown_from shown lead separated shown_field shown_operand shown_pair shown_expression shown_condition shown_mode shown_assignment shown_assignments shown_task shown_part
large_text = refl

pub large_refused : (part_of (code "N") (bytes "16,na_c,4294967296=d15,{d0:=d1+4294967295},") 0 (replicate element_words 0)).end ≡ Refused 3 8
unfolding if◌then◌or_else◌ among between is_blank is_word is_letter is_digit is_sign past token_of token_here token_at if_word if_sign if_assign value_from leading_zero number_of same_bytes is_field_letter field_behind field_from field_of as_number as_field operand_of if_at onward ◌then◌ sign_at assign_at keep_number number field keep_operand operand mode_named keep_mode mode condition task_part part_of
large_refused = refl
