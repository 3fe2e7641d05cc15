-- VALUES OF AN ENTRY READ BACK: "values joined by commas, possibly none". Assumes nothing.
use Prim.Native.Nat.{ℕ, zero, suc, ◌+◌, ◌-◌, ◌<◌, ◌≤◌, min}
use mathlib.Core.Path.{◌≡◌, ◌∙◌, refl, sym, ap, subst}
use mathlib.Core.Bool.{true, false}
use mathlib.Core.List.{List, [], ◌∷◌, ◌++◌, append_assoc, append-nil}
use native.Mathlib.Omega.{arith}
use lib.ListN.{length, length-append, length-drop, drop}
use borrow.Author.Tests.{le-leb, lt-leb}
use Rattle.base_words.specs.Counts.{values}
use Rattle.base_words.specs.Each.{joined}
use Rattle.base_words.specs.Pick.{if◌then◌or_else◌}
use Rattle.base_words.specs.Text.{bytes}
use Rattle.base_words.specs.Words.{at, greatest}
use Rattle.text_lexer.specs.Lexer.{is_word}
use Rattle.base_bytes.specs.Bytes.{is_letter, is_digit, between}
use Rattle.text_numerals.specs.declared.Number.TheVariants.{Value}
use Rattle.text_numerals.specs.Numerals.{if_value}
use Rattle.write_buffer.specs.Buffers.{lesser}
use Rattle.write_decimals.specs.Decimals.{shown}
use Rattle.write_decimals.proofs.DecimalLaws.{shown_some}
use Rattle.write_lines.specs.Lines.{marked_off, row, values_line}
use Rattle.meaning.specs.declared.Tuple.{Tuple}
use Rattle.meaning.specs.Tuples.{empty, value_of}
use Rattle.meaning.specs.Queues.{tidied}
use Rattle.log_lines.specs.Entries.{number_up_to, given, added, values_in, values_from}
use Rattle.base_words.specs.Words.{one_more}
use Rattle.proof_logs.proofs.NumberEntries.{run_marked, run_last, piece, inside, behind_mark}

-- values joined by commas, and added one by one
unfoldable pub commas : List ℕ → List ℕ
commas [] = []
commas (v ∷ []) = shown v
commas (v ∷ u ∷ r) = shown v ++ 44 ∷ commas (u ∷ r)

unfoldable pub add_all : Tuple → List ℕ → Tuple
add_all g [] = g
add_all g (v ∷ r) = add_all (added g v) r

pub data Fair : List ℕ → Type 0 where
  none : Fair []
  one : (v : ℕ) (r : List ℕ) → v ≤ greatest → Fair r → Fair (v ∷ r)

comma : is_word 44 ≡ false
comma = unfold is_word is_letter is_digit between in refl

-- each takes a byte
pub commas_long : (r : List ℕ) → length r ≤ length (commas r)
unfolding commas
commas_long [] = omega arith
commas_long (v ∷ []) = shown_some v
commas_long (v ∷ u ∷ r) =
    omega (arith, length-append (shown v) (44 ∷ commas (u ∷ r)), commas_long (u ∷ r), shown_some v)

pub values_read : (w : List ℕ) (p : ℕ) (g : Tuple) (n : ℕ) (v : ℕ) (r : List ℕ) → Fair (v ∷ r) → drop p w ≡ commas (v ∷ r) → length r < n → values_in n w p g ≡ given true (add_all g (v ∷ r))
unfolding commas add_all values_in if_value if◌then◌or_else◌
values_read w p g zero v r f e l = absurd (omega (arith, l))
values_read w p g (suc n) v [] (one _ _ h f) e l =
    let s = run_last 44 comma w p v h e in
    let a : number_up_to 44 w p ≡ Value v = piece 44 comma w p v h [] (e ∙ sym (append-nil (shown v))) s in
    rw (a, s, le-leb (length w) (p + length (shown v)) (omega (arith, ap length e, length-drop p w, shown_some v))) refl
values_read w p g (suc n) v (u ∷ r) (one _ _ h f) e l =
    let s = run_marked 44 comma w p v h (commas (u ∷ r)) e in
    let a : number_up_to 44 w p ≡ Value v = piece 44 comma w p v h (44 ∷ commas (u ∷ r)) e s in
    rw (a, s, lt-leb (length w) (p + length (shown v)) (inside 44 comma w p v h (commas (u ∷ r)) e))
    (values_read w (p + length (shown v) + 1) (added g v) n u r f (behind_mark (shown v) (commas (u ∷ r)) w 44 p e) (omega (arith, l)))

-- THE VALUES OF A TUPLE, at most four
unfoldable pub firsts : ℕ → List ℕ → List ℕ
firsts zero s = []
firsts (suc zero) s = at s 0 ∷ []
firsts (suc (suc zero)) s = at s 0 ∷ at s 1 ∷ []
firsts (suc (suc (suc zero))) s = at s 0 ∷ at s 1 ∷ at s 2 ∷ []
firsts (suc (suc (suc (suc k)))) s = at s 0 ∷ at s 1 ∷ at s 2 ∷ at s 3 ∷ []

abbrev tuple : ℕ → List ℕ → Tuple
tuple k s = record { length = k; values = s }

-- what has been shown of a count up to four
module _ (P : ℕ → Type 0) (p0 : P 0) (p1 : P 1) (p2 : P 2) (p3 : P 3) (p4 : P 4) where
  pub up_to_four : (k : ℕ) → k ≤ 4 → P k
  up_to_four zero h = p0
  up_to_four (suc zero) h = p1
  up_to_four (suc (suc zero)) h = p2
  up_to_four (suc (suc (suc zero))) h = p3
  up_to_four (suc (suc (suc (suc zero)))) h = p4
  up_to_four (suc (suc (suc (suc (suc k))))) h = absurd (omega (arith, h))

pub row_commas : (s : List ℕ) (k : ℕ) → k ≤ 4 → row (bytes ",") s k ≡ commas (firsts k s)
unfolding row joined marked_off if◌then◌or_else◌ commas firsts
row_commas s = up_to_four (λ k. row (bytes ",") s k ≡ commas (firsts k s)) refl refl refl (rw append_assoc refl) (rw append_assoc (rw append_assoc refl))

pub added_tidy : (s : List ℕ) (k : ℕ) → k ≤ 4 → add_all empty (firsts k s) ≡ tidied (tuple k s)
unfolding add_all firsts added one_more tidied value_of if◌then◌or_else◌
added_tidy s = up_to_four (λ k. add_all empty (firsts k s) ≡ tidied (tuple k s)) refl refl refl refl refl

pub firsts_fair : (s : List ℕ) (k : ℕ) → k ≤ 4 → ((j : ℕ) → at s j ≤ greatest) → Fair (firsts k s)
unfolding firsts
firsts_fair s k h small =
    up_to_four (λ j. Fair (firsts j s)) none (one _ _ (small 0) none) (one _ _ (small 0) (one _ _ (small 1) none))
    (one _ _ (small 0) (one _ _ (small 1) (one _ _ (small 2) none)))
    (one _ _ (small 0) (one _ _ (small 1) (one _ _ (small 2) (one _ _ (small 3) none)))) k h

-- a tuple whose values stand from p to the end
pub tuple_read : (w : List ℕ) (p : ℕ) (g : Tuple) → g.length ≤ 4 → ((j : ℕ) → at g.values j ≤ greatest) → drop p w ≡ values_line g → values_from w p ≡ given true (tidied g)
unfolding values_from if◌then◌or_else◌ commas add_all values_line lesser
tuple_read w p g few small e = go (firsts g.length g.values) refl
  where
    shown-row : drop p w ≡ commas (firsts g.length g.values)
    shown-row = e ∙ (ap (row (bytes ",") g.values) (let m : min g.length values ≡ g.length = omega (arith, few) in m)) ∙ row_commas g.values g.length few

    tidy : add_all empty (firsts g.length g.values) ≡ tidied g
    tidy = added_tidy g.values g.length few

    go : (r : List ℕ) → firsts g.length g.values ≡ r → values_from w p ≡ given true (tidied g)
    go [] f =
        let n : drop p w ≡ [] = shown-row ∙ ap commas f in
        rw (le-leb (length w) p (omega (arith, ap length n, length-drop p w))) (ap (given true) (ap (add_all empty) (sym f) ∙ tidy))
    go (v ∷ r) f =
        let n : drop p w ≡ commas (v ∷ r) = shown-row ∙ ap commas f in
        let long : length (v ∷ r) ≤ length w - p = omega (arith, ap length n, length-drop p w, commas_long (v ∷ r)) in
        rw (lt-leb (length w) p (omega (arith, long)))
        (values_read w p empty (length w) v r (subst Fair f (firsts_fair g.values g.length few small)) n (omega (arith, long)) ∙ ap (given true) (ap (add_all empty) (sym f) ∙ tidy))
