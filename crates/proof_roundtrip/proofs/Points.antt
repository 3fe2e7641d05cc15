-- Points, computed: a text that is read, whose table is written as that text, and read back. Assumes nothing.
use Prim.Native.Nat.{ℕ, ◌≤◌}
use mathlib.Core.Path.{◌≡◌, ◌∙◌, refl, sym, ap, subst}
use mathlib.Core.Bool.{true}
use mathlib.Core.List.{List, map}
use lib.ListN.{length}
use borrow.Author.Tests.{leb-true}
use Rattle.base_words.specs.All.{all}
use Rattle.base_words.specs.Counts.{text_most}
use Rattle.base_words.specs.Each.{total, each, joined}
use Rattle.base_words.specs.Iter.{iter}
use Rattle.base_words.specs.Pick.{if◌then◌or_else◌}
use Rattle.base_words.specs.Seek.{seek}
use Rattle.base_words.specs.Sum.{sum}
use Rattle.base_words.specs.Text.{bytes}
use Rattle.base_kinds.specs.Kinds.{kind_of, used}
use Rattle.base_table.specs.Table.{entry_count, exit_count}
use Rattle.text_lexer.specs.Lexer.{is_blank, is_word, is_sign, token_of, token_here, token_at, if_word, if_sign, if_end}
use Rattle.base_bytes.specs.Bytes.{among, between, is_letter, is_digit, past}
use Rattle.text_numerals.specs.Numerals.{value_from, leading_zero, number_of}
use Rattle.base_bytes.specs.Bytes.{same_bytes}
use Rattle.std.specs.declared.result.Result.TheVariants.{Ok}
use Rattle.text_readers.specs.Reading.{if_at, onward, sign_at, end_at, keep_number, number, ◌then◌}
use Rattle.text_parts.specs.Parts.{item_of, items_from, items, inside, series, message, starts, too_many, counted, one_edge, part_of}
use Rattle.text_elements.specs.Elements.{is_keyword, kind_named, blank, parts_from, parts_of, element_of, element}
use Rattle.check_occurrences.specs.Occurrences.{condition_count, received_count, sent_count, of_kind, as_exit, as_entry, as_first, as_task, as_received, as_sent, is_default, defaults, default_once, bound_once}
use Rattle.check_model.specs.Checks.{check1, check2, check3, edge_right, check4, check5, pool_receives, pool_sends, not_sent_there, check6, check7, check8, lowest}
use Rattle.text_read.specs.Notation.{one_too_many, put_before, barred, element_alone, elements_at, pool_word, opening, closing, closed, inside_pool, pool_of_word, pool, pools_at, model, flat, filled, pool_table, table_of, read_into}
use Rattle.text_ends.specs.Rewriting.{is_end_snd, times_in, mentioned, is_unused, first_from, lowest_unused, with_one, sending_to, end_of, first_end, treated, end_sends, all_treated, rewritten, unused_count, room_for, has_room}
use Rattle.write_decimals.specs.Decimals.{shown_from, shown}
use Rattle.write_shown.specs.Shown.{lead, separated, shown_tuple, shown_message, shown_part, shown_parts, shown_element, shown_elements, shown_limit, shown_pool, shown_pools, shown_table}
use Rattle.proof_roundtrip.proofs.RoundTrip.{read_again}

-- "`pool(1,start(1,2)|endSnd(2,3:<>))` is written `pool(1,start(1,2)|interSnd(2,3:<>,3)|end(3))`"
abbrev sample : List ℕ
sample = bytes "pool(1,start(1,2)|endSnd(2,3:<>))"

abbrev again : List ℕ
again = bytes "pool(1,start(1,2)|interSnd(2,3:<>,3)|end(3))\n"

sample_read : (model sample).end ≡ Ok 33
unfolding among between is_blank is_word is_letter is_digit is_sign past token_of token_here token_at if_word if_sign if_end value_from leading_zero number_of same_bytes if_at onward ◌then◌ sign_at end_at keep_number number one_edge part_of is_keyword kind_named blank parts_from parts_of element_of element put_before barred element_alone elements_at pool_word opening closing closed inside_pool pool_of_word pool pools_at model seek kind_of if◌then◌or_else◌ item_of items_from items inside series message counted one_too_many too_many starts
sample_read = refl

sample_sound : lowest (model sample).value ≡ 0
unfolding among between is_blank is_word is_letter is_digit is_sign past token_of token_here token_at if_word if_sign if_end value_from leading_zero number_of same_bytes if_at onward ◌then◌ sign_at end_at keep_number number one_edge part_of is_keyword kind_named blank parts_from parts_of element_of element put_before barred element_alone elements_at pool_word opening closing closed inside_pool pool_of_word pool pools_at model seek kind_of if◌then◌or_else◌ item_of items_from items inside series message counted one_too_many too_many starts all total each sum used entry_count exit_count condition_count received_count sent_count of_kind as_exit as_entry as_first as_task as_received as_sent is_default defaults default_once bound_once check1 check2 check3 edge_right check4 check5 pool_receives pool_sends not_sent_there check6 check7 check8 lowest
sample_sound = refl

sample_room : each has_room (model sample).value ≡ true
unfolding among between is_blank is_word is_letter is_digit is_sign past token_of token_here token_at if_word if_sign if_end value_from leading_zero number_of same_bytes if_at onward ◌then◌ sign_at end_at keep_number number one_edge part_of is_keyword kind_named blank parts_from parts_of element_of element put_before barred element_alone elements_at pool_word opening closing closed inside_pool pool_of_word pool pools_at model seek kind_of if◌then◌or_else◌ item_of items_from items inside series message counted one_too_many too_many starts each total sum iter is_end_snd times_in mentioned is_unused first_from lowest_unused with_one sending_to end_of first_end treated end_sends all_treated rewritten unused_count room_for has_room
sample_room = refl

sample_text : shown_table (table_of (map rewritten (model sample).value)) ≡ again
unfolding among between is_blank is_word is_letter is_digit is_sign past token_of token_here token_at if_word if_sign if_end value_from leading_zero number_of same_bytes if_at onward ◌then◌ sign_at end_at keep_number number one_edge part_of is_keyword kind_named blank parts_from parts_of element_of element put_before barred element_alone elements_at pool_word opening closing closed inside_pool pool_of_word pool pools_at model seek kind_of if◌then◌or_else◌ item_of items_from items inside series message counted one_too_many too_many starts flat filled pool_table table_of joined shown_from shown lead separated shown_part shown_parts shown_element shown_elements shown_limit shown_pool shown_pools shown_table each total sum iter is_end_snd times_in mentioned is_unused first_from lowest_unused with_one sending_to end_of first_end treated end_sends all_treated rewritten unused_count room_for has_room shown_tuple shown_message used
sample_text = refl

-- the laws apply to it
pub sample_again : (t₀ : List ℕ) → read_into again t₀ ≡ record { number = 0; beside = 0; table = table_of (map rewritten (model sample).value) }
sample_again t₀ =
    ap (λ (text : List ℕ). read_into text t₀) (sym sample_text)
    ∙ read_again sample 33 sample_read sample_room t₀ sample_sound
    (subst (λ (text : List ℕ). length text ≤ text_most) (sym sample_text) (leb-true (length again) text_most refl))
