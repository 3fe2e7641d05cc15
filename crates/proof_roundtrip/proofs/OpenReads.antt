-- What stands around the elements of a pool, read back: its number before them, and its limit behind them. Assumes nothing.
use Prim.Native.Char.{code}
use Prim.Native.Nat.{ℕ, ◌+◌, ◌≤◌}
use mathlib.Core.Path.{◌≡◌, ◌∙◌, refl, sym, ap}
use mathlib.Core.Bool.{true, ◌&&◌}
use mathlib.Core.List.{List, [], ◌∷◌, ◌++◌}
use native.Mathlib.Omega.{arith}
use lib.Dec.{leb}
use lib.ListN.{length, drop, set}
use borrow.Author.Tests.{le-leb}
use Rattle.base_words.specs.Counts.{pool_numbers, instances}
use Rattle.base_words.specs.Pick.{if◌then◌or_else◌}
use Rattle.base_words.specs.Words.{greatest}
use Rattle.base_words.proofs.PickLaws.{pick_yes, and_true}
use Rattle.base_table.specs.Places.{limit_in}
use Rattle.text_lexer.specs.Lexer.{is_sign}
use Rattle.base_bytes.specs.Bytes.{among}
use Rattle.text_lexer.proofs.TokenLaws.{left_at}
use Rattle.text_numerals.specs.declared.Number.{Number}
use Rattle.text_numerals.specs.declared.Number.TheVariants.{Value}
use Rattle.text_numerals.specs.Numerals.{number_of}
use Rattle.text_numerals.proofs.Spelled.{spelled_some, spelled_word, number_spelled}
use Rattle.text_readers.specs.Reading.{Read, misplaced, passed_to, refused_at, ◌then◌, sign, keep_number, number}
use Rattle.text_readers.proofs.ReadingLaws.{then_at}
use Rattle.write_decimals.specs.Decimals.{shown}
use Rattle.text_read.specs.Notation.{plain, multiple, opening, closing}
use Rattle.proof_roundtrip.specs.Trip.{may_follow}
use Rattle.proof_roundtrip.proofs.SignReads.{sign_hit, sign_stops}
use Rattle.proof_roundtrip.proofs.NumberReads.{Worded, word_taken, shown_spelled}

-- a number, stored anywhere
pub number_trip : (text rest : List ℕ) (from least most place v : ℕ) (x : List ℕ) → least ≤ v → v ≤ most → v ≤ greatest → drop from text ≡ shown v ++ rest → may_follow rest ≡ true
    → number least most place text from x ≡ passed_to (from + length (shown v)) (set x place v)
number_trip text rest from least most place v x l m g d k =
    taken
    ∙ ap (λ (n : Number). keep_number n least most place from (from + length (shown v)) x) (number_spelled (shown_spelled v g) g)
    ∙ kept
  where
    worded : Worded (shown v)
    worded = record { some = spelled_some (shown_spelled v g); plain = spelled_word (shown_spelled v g) }

    taken : number least most place text from x ≡ keep_number (number_of (shown v)) least most place from (from + length (shown v)) x
    taken = unfold number in word_taken text (shown v) rest from d worded k (λ w p q. keep_number (number_of w) least most place p q x) (λ p. refused_at misplaced p x)

    kept : keep_number (Value v) least most place from (from + length (shown v)) x ≡ passed_to (from + length (shown v)) (set x place v)
    kept = unfold keep_number in sym (pick_yes (leb least v && leb v most) _ _ _ (and_true _ _ (le-leb least v l) (le-leb v most m)) refl)

-- a sign
pub sign_trip : (text rest : List ℕ) (from s : ℕ) (x : List ℕ) → is_sign s ≡ true → drop from text ≡ s ∷ rest → sign s text from x ≡ passed_to (from + 1) x
sign_trip text rest from s x e d = ap (λ (r : Read). record { end = r; words = x }) (sign_hit text from s rest d e)

module _ (text rest : List ℕ) (from : ℕ) where
  -- a number between two signs
  pub between_trip : (a b least most place v : ℕ) (x : List ℕ) → is_sign a ≡ true → is_sign b ≡ true → least ≤ v → v ≤ most → v ≤ greatest → drop from text ≡ a ∷ (shown v ++ (b ∷ rest))
      → (sign a then number least most place then sign b) text from x ≡ passed_to (from + (length (shown v) + 2)) (set x place v)
  between_trip a b least most place v x ea eb l m g d =
      then_at (sign a) (number least most place then sign b) text from x (from + 1) x (sign_trip text (shown v ++ (b ∷ rest)) from a x ea d)
      ∙ then_at (number least most place) (sign b) text (from + 1) x (from + 1 + length (shown v)) (set x place v)
      (number_trip text (b ∷ rest) (from + 1) least most place v x l m g d₁ (sign_stops b rest eb))
      ∙ sign_trip text rest (from + 1 + length (shown v)) b (set x place v) eb (left_at text (from + 1) (shown v) (b ∷ rest) d₁)
      ∙ ap (λ (q : ℕ). passed_to q (set x place v)) (let z : from + 1 + length (shown v) + 1 ≡ from + (length (shown v) + 2) = omega arith in z)
    where
      d₁ : drop (from + 1) text ≡ shown v ++ (b ∷ rest)
      d₁ = left_at text from (a ∷ []) (shown v ++ (b ∷ rest)) d

  pub behind_number : (a b v : ℕ) → drop from text ≡ a ∷ (shown v ++ (b ∷ rest)) → drop (from + (length (shown v) + 2)) text ≡ rest
  behind_number a b v d =
      ap (λ (q : ℕ). drop q text) (let z : from + (length (shown v) + 2) ≡ from + 1 + length (shown v) + 1 = omega arith in z)
      ∙ left_at text (from + 1 + length (shown v)) (b ∷ []) rest
      (left_at text (from + 1) (shown v) (b ∷ rest) (left_at text from (a ∷ []) (shown v ++ (b ∷ rest)) d))

  -- `(p,`
  pub opening_trip : (v : ℕ) → 1 ≤ v → v ≤ pool_numbers → drop from text ≡ code "(" ∷ (shown v ++ (code "," ∷ rest)) → opening text from (0 ∷ 0 ∷ []) ≡ passed_to (from + (length (shown v) + 2)) (v ∷ 0 ∷ [])
  unfolding opening
  opening_trip v l m d =
      between_trip (code "(") (code ",") 1 pool_numbers 0 v (0 ∷ 0 ∷ []) (unfold is_sign among in refl) (unfold is_sign among in refl) l m (omega (arith, m)) d

  -- `)`, or `,n)`
  pub closing-plain : (x : List ℕ) → drop from text ≡ code ")" ∷ rest → closing plain text from x ≡ passed_to (from + 1) x
  unfolding closing if◌then◌or_else◌
  closing-plain x d = sign_trip text rest from 41 x (unfold is_sign among in refl) d

  pub closing-multiple : (v n : ℕ) → 1 ≤ v → v ≤ instances → drop from text ≡ code "," ∷ (shown v ++ (code ")" ∷ rest)) → closing multiple text from (n ∷ 0 ∷ []) ≡ passed_to (from + (length (shown v) + 2)) (n ∷ v ∷ [])
  unfolding closing if◌then◌or_else◌
  closing-multiple v n l m d =
      between_trip (code ",") (code ")") 1 instances limit_in v (n ∷ 0 ∷ []) (unfold is_sign among in refl) (unfold is_sign among in refl) l m (omega (arith, m)) d
