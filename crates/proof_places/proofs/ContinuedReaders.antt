-- Every reader of an element's text by a grammar, from what it is made of. Assumes nothing.
use Prim.Native.Char.{code}
use Prim.Native.Nat.{ℕ, ◌+◌, ◌-◌, ◌<◌}
use mathlib.Core.Path.{◌≡◌, ◌∙◌, refl, sym, ap, subst}
use mathlib.Core.Bool.{Bool, true, false, ◌&&◌}
use mathlib.Core.List.{List, [], ◌∷◌}
use native.Mathlib.Omega.{arith}
use Rattle.base_words.specs.Each.{each}
use Rattle.base_words.specs.Pick.{if◌then◌or_else◌}
use Rattle.base_words.specs.Text.{bytes}
use Rattle.base_words.specs.Counts.{edges}
use Rattle.base_table.specs.Places.{form_place, left_place, always, default}
use Rattle.text_lexer.specs.declared.Form.{Form}
use Rattle.text_lexer.specs.declared.Form.TheVariants.{Word, Sign, Assign, End, Other}
use Rattle.text_lexer.specs.Lexer.{is_sign, is_word, token_at, if_word}
use Rattle.base_bytes.specs.Bytes.{among, between, is_digit, is_letter}
use Rattle.base_bytes.specs.Bytes.{same_bytes}
use Rattle.text_readers.specs.Reading.{Reader, misplaced, excessive, refused_at, ◌then◌, place_of, behind, letters, sign, operand}
use Rattle.text_terms.specs.Terms.{store, joint, expression, bind, template_item, comparison, condition, assignment, guarded}
use Rattle.proof_places.proofs.Pieces.{Lexeme, is_end, Piece, met, signed, worded}
use Rattle.proof_places.proofs.Grammar.{takes, refuses, takes_refuses, Grammar, done, node, turn, next, Leads, ends, fails, steps, Whole, over, more, sample, Ranged, Live}
use Rattle.proof_places.proofs.Runs.{any, done-live, Reads, Calm, Once, Signal, once_reads, led_reads, led_calm, signal_once, signal_led, once_then, then_calm, signal_then, still_calm, still_once}
use Rattle.proof_places.proofs.Leaves.{two_three, sign_signal, assign_once, number_once, field_once, operand_once}
use Rattle.proof_places.proofs.Choices.{look, look_reads, by_leads, lead, never}

pub signal : (s : ℕ) → is_sign s ≡ true → Signal s (sign s)
signal s h = sign_signal s (signed s h) refl

-- behind which anything may follow
pub closing : (s : ℕ) → is_sign s ≡ true → Calm any (sign s)
closing s h = led_calm (signal_led (signal s h))

pub comma : Signal (code ",") (sign (code ","))
unfolding is_sign among
comma = signal (code ",") refl

-- TERMS
pub store_once : (place v : ℕ) → Once (store place v)
store_once place v = still_once _ (λ t from x. refl)

pub store_reads : {P : Form → Bool} (place v : ℕ) → Reads P (store place v)
store_reads place v = (still_calm _ (λ t from x. refl)).reads

stored_operand : (place v right : ℕ) → Reads any (store place v then operand right)
stored_operand place v right = once_then (store_once place v) (once_reads (operand_once right))

pub look_at : {P : Form → Bool} {f g : Reader} (s : ℕ) → is_sign s ≡ true → Reads P f → Reads P g → Reads P (look s f g)
look_at s h a b = look_reads s (signed s h) refl a b

joint_reads : (place : ℕ) → Reads any (joint place)
unfolding joint is_sign among
joint_reads place = look_at (code "+") refl (stored_operand _ _ _) (look_at (code "-") refl (stored_operand _ _ _) (store_reads _ _))

pub expression_reads : (place : ℕ) → Reads any (expression place)
unfolding expression
expression_reads place = once_then (operand_once _) (joint_reads place)

bind_reads : (place : ℕ) → Reads any (bind place)
unfolding bind
bind_reads place = once_then (store_once _ _) (once_then (store_once _ _) (once_reads (field_once _)))

pub template_reads : (place : ℕ) → Reads any (template_item place)
unfolding template_item is_sign among
template_reads place = look_at (code "?") refl (bind_reads place) (expression_reads place)

comparison_reads : (place : ℕ) → Reads any (comparison place)
unfolding comparison is_sign among
comparison_reads place = look_at (code "=") refl (stored_operand _ _ _) (led_reads (signal_then (signal (code "<") refl) (stored_operand _ _ _)))

-- a condition, by its word
module _ (defaults : Bool) (place : ℕ) where
  compared : Reads any (operand (place + left_place) then comparison place)
  compared = once_then (operand_once (place + left_place)) (comparison_reads place)

  abbrev chosen : Grammar → Form → Bool → Bool → Grammar
  chosen g Word true d = lead done
  chosen g Word false true = lead done
  chosen g Word false false = g
  chosen g (Sign b) c d = never
  chosen g Assign c d = never
  chosen g End c d = never
  chosen g Other c d = never

  abbrev by_word : Lexeme → Grammar
  by_word k = chosen compared.runs.grammar k.form (same_bytes k.letters (bytes "true")) (defaults && same_bytes k.letters (bytes "default"))

  word_leads : (t : List ℕ) (from : ℕ) (x : List ℕ) (m : Form) (c d : Bool) → (token_at t from).form ≡ m → Leads t (if_word m (if c then store (place + form_place) always t (behind t from) x or_else if d then store (place + form_place) default t (behind t from) x or_else (operand (place + left_place) then comparison place) t from x) (refused_at misplaced (place_of t from) x)).end (chosen compared.runs.grammar m c d) from
  unfolding if_word if◌then◌or_else◌
  word_leads t from x Word true d e = steps refl (ap is_end e) (ends refl refl)
  word_leads t from x Word false true e = steps refl (ap is_end e) (ends refl refl)
  word_leads t from x Word false false e = compared.runs.leads t from x
  word_leads t from x (Sign b) c d e = fails misplaced refl refl
  word_leads t from x Assign c d e = fails misplaced refl refl
  word_leads t from x End c d e = fails misplaced refl refl
  word_leads t from x Other c d e = fails misplaced refl refl

  word_onward : (k : Lexeme) (m : Form) (c d : Bool) → turn (chosen compared.runs.grammar m c d) k ≡ takes → Live any (next (chosen compared.runs.grammar m c d) k)
  word_onward k Word true d z = done-live
  word_onward k Word false true z = done-live
  word_onward k Word false false z = compared.runs.onward k z
  word_onward k (Sign b) c d z = takes_refuses takes misplaced refl (sym z)
  word_onward k Assign c d z = takes_refuses takes misplaced refl (sym z)
  word_onward k End c d z = takes_refuses takes misplaced refl (sym z)
  word_onward k Other c d z = takes_refuses takes misplaced refl (sym z)

  sampled : (b : Bool) → by_word (met (sample b)) ≡ compared.runs.grammar
  unfolding same_bytes
  sampled b = go defaults b
    where
      go : (a b : Bool) → chosen compared.runs.grammar (sample b).form (same_bytes (sample b).spelled (bytes "true")) (a && same_bytes (sample b).spelled (bytes "default")) ≡ compared.runs.grammar
      go true true = refl
      go true false = refl
      go false true = refl
      go false false = refl

  word_ranged : (k : Lexeme) (m : Form) (c d : Bool) → turn (chosen compared.runs.grammar m c d) k ≡ refuses excessive → Ranged any compared.runs.grammar k
  word_ranged k Word true d z = takes_refuses takes excessive refl z
  word_ranged k Word false true z = takes_refuses takes excessive refl z
  word_ranged k Word false false z = compared.runs.ranged k z
  word_ranged k (Sign b) c d z = two_three z
  word_ranged k Assign c d z = two_three z
  word_ranged k End c d z = two_three z
  word_ranged k Other c d z = two_three z

  abbrev condition_grammar : Grammar
  condition_grammar = node (λ k. turn (by_word k) k) (λ k. next (by_word k) k)

  sampled_ranged : (k : Lexeme) → Ranged any compared.runs.grammar k → Ranged any condition_grammar k
  sampled_ranged k r =
      let s : Lexeme = met (sample r.better) in
      let e = sampled r.better in
      record {
        spelled = r.spelled;
        better = r.better;
        taken = ap (λ (g : Grammar). turn g s) e ∙ r.taken;
        pieces = r.pieces;
        whole = subst (λ (g : Grammar). Whole any (next g s) r.pieces) (sym e) r.whole;
      }

  true_word : each is_word (bytes "true") ≡ true
  unfolding each is_word is_letter is_digit between
  true_word = refl

  true-lead : by_word (record { form = Word; letters = bytes "true" }) ≡ lead done
  unfolding same_bytes
  true-lead = refl

  pub condition_reads : Reads any (condition defaults place)
  unfolding condition
  condition_reads =
      let b : Piece = worded (bytes "true") (omega arith) true_word in
      record {
        runs = record {
          grammar = condition_grammar;
          leads = λ t from x. by_leads by_word t (condition defaults place t from x).end from (word_leads t from x (token_at t from).form (same_bytes (letters t from) (bytes "true")) (defaults && same_bytes (letters t from) (bytes "default")) refl);
          ranged = λ k z. sampled_ranged k (word_ranged k k.form (same_bytes k.letters (bytes "true")) (defaults && same_bytes k.letters (bytes "default")) z);
          onward = λ k z. word_onward k k.form (same_bytes k.letters (bytes "true")) (defaults && same_bytes k.letters (bytes "default")) z;
        };
        pieces = b ∷ [];
        whole = more b (ap (λ (g : Grammar). turn g (met b)) true-lead) (subst (λ (g : Grammar). Whole any (next g (met b)) []) (sym true-lead) (over (λ k q. refl)));
      }

pub assignment_reads : (j : ℕ) → Reads any (assignment j)
unfolding assignment
assignment_reads j = once_then (field_once _) (once_then assign_once (expression_reads _))

pub guarded_reads : (b : ℕ) → Reads any (guarded b)
unfolding guarded is_sign among
guarded_reads b =
    led_reads (signal_then (signal (code "(") refl)
    (once_then (number_once 1 edges _ refl)
    (once_then (signal_once comma)
    (then_calm (condition_reads true _) (closing (code ")") refl)))))
