-- Numbers, digit by digit, and words compared. Assumes nothing.
use mathlib.Core.Path.{◌≡◌, ◌∙◌, sym, ap}
use mathlib.Core.Bool.{true, false}
use mathlib.Core.List.{List, [], ◌∷◌}
use mathlib.Core.Logic.{◌⊎◌, ⊎_elim, inl, inr}
use Prim.Native.Nat.{ℕ, ◌+◌, ◌*◌, ◌-◌, ◌<◌, ◌≤◌}
use native.Mathlib.Numerals.{add-one}
use native.Mathlib.Omega.{arith}
use lib.Dec.{leb}
use lib.ListN.{length, drop, drop_of_length-le}
use lib.Seq.{drop-cons}
use borrow.Author.Tests.{le-leb, lt-leb, leb-true}
use Rattle.base_words.specs.Pick.{if◌then◌or_else◌}
use Rattle.base_words.specs.Words.{at, greatest}
use Rattle.base_words.proofs.AllLaws.{and_left, and_right}
use Rattle.base_bytes.specs.Bytes.{between, is_digit}
use Rattle.base_bytes.proofs.PieceLaws.{by_order}
use Rattle.text_numerals.specs.declared.Number.{Number}
use Rattle.text_numerals.specs.declared.Number.TheVariants.{Value, TooLarge, NotANumber}
use Rattle.text_numerals.specs.Numerals.{value_from, grown}

pub digit_bounds : (d : ℕ) → is_digit d ≡ true → (48 ≤ d) × (d ≤ 57)
unfolding is_digit between
digit_bounds d e = (leb-true 48 d (and_left (leb 48 d) (leb d 57) e), leb-true d 57 (and_right (leb 48 d) (leb d 57) e))

-- the digit at the place i of a word, and a byte that is none
module _ (w : List ℕ) (v i : ℕ) (h : i < length w) where
  pub value_more : is_digit (at w i) ≡ true → value_from v (drop i w) ≡ value_from (v * 10 + (at w i - 48)) (drop (i + 1) w)
  unfolding value_from if◌then◌or_else◌
  value_more e = rw (drop-cons w i 0 h, e, add-one i)

  pub value_none : is_digit (at w i) ≡ false → value_from v (drop i w) ≡ NotANumber
  unfolding value_from if◌then◌or_else◌
  value_none e = rw (drop-cons w i 0 h, e)

pub value_within : (w : List ℕ) (v i : ℕ) → length w ≤ i → v ≤ greatest → value_from v (drop i w) ≡ Value v
unfolding value_from if◌then◌or_else◌
value_within w v i h l = rw (drop_of_length-le w h, le-leb v greatest l)

pub value_above : (w : List ℕ) (v i : ℕ) → length w ≤ i → greatest < v → value_from v (drop i w) ≡ TooLarge
unfolding value_from if◌then◌or_else◌
value_above w v i h l = rw (drop_of_length-le w h, lt-leb v greatest l)

-- above the greatest word all values go the same way
pub value_large : (w : List ℕ) (v u : ℕ) → greatest < v → greatest < u → value_from v w ≡ value_from u w
unfolding value_from if◌then◌or_else◌
value_large [] v u hv hu = rw (lt-leb v greatest hv, lt-leb u greatest hu)
value_large (d ∷ w) v u hv hu =
    ap (λ (n : Number). if is_digit d then n or_else NotANumber)
    (value_large w (v * 10 + (d - 48)) (u * 10 + (d - 48)) (omega arith) (omega arith))

-- the next value, by whether it still grows
pub grown_cases : (v d u : ℕ) → u ≡ grown v d → ((v ≤ greatest) × (u ≡ v * 10 + (d - 48))) ⊎ ((greatest < v) × (u ≡ v))
unfolding grown if◌then◌or_else◌
grown_cases v d u e = by_order v greatest (λ h. inl (h, rw (e, le-leb v greatest h))) (λ h. inr (h, rw (e, lt-leb v greatest h)))

-- one digit more, whose value u is kept as it was where it is above the greatest word already
pub value_on : (w : List ℕ) (v i : ℕ) → i < length w → is_digit (at w i) ≡ true → (n : Number) → v ≤ greatest * 10 + 9 → value_from v (drop i w) ≡ n
    → (u : ℕ) → ((v ≤ greatest) × (u ≡ v * 10 + (at w i - 48))) ⊎ ((greatest < v) × (u ≡ v)) → (u ≤ greatest * 10 + 9) × (value_from u (drop (i + 1) w) ≡ n)
value_on w v i h e n l k u =
    ⊎_elim
    (λ c. (omega (arith, c.0, c.1, (digit_bounds (at w i) e).1), rw c.1 (sym (value_more w v i h e) ∙ k)))
    (λ c. (omega (arith, c.1), value_large (drop (i + 1) w) u (v * 10 + (at w i - 48)) (omega (arith, c.0, c.1)) (omega (arith, c.0)) ∙ sym (value_more w v i h e) ∙ k))
