-- What a function makes of those numbers below n that pass a test: as many as pass it, and each at the place that says how many pass it before. Assumes nothing.
use Prim.Native.Nat.{ℕ, zero, suc, ◌+◌, ◌≤◌, ◌<◌}
use mathlib.Core.Path.{◌≡◌, refl, sym, ◌∙◌, ap, ap₂}
use mathlib.Core.Bool.{Bool, true, false, ◌&&◌}
use mathlib.Core.List.{List, [], ◌∷◌, ◌++◌, append-nil}
use mathlib.Core.Logic.{⊎_elim}
use native.Mathlib.Nat.{le_of_suc-le-suc, eq-or-lt_of_le}
use native.Mathlib.Omega.{arith}
use lib.ListN.{length, get_or, length-append, get_or-append}
use lib.Seq.{get_or-append-add}
use Rattle.base_words.specs.Each.{joined, total}
use Rattle.base_words.specs.Pick.{if◌then◌or_else◌}
use Rattle.base_words.specs.Sum.{sum, one_if}
use Rattle.base_words.proofs.EachLaws.{total_append}
use Rattle.draw_numbers.specs.Numbers.{count_before}

-- nothing adds up to nothing
pub as_none : (b : Bool) → ◌≡◌ {A = ℕ} 0 (one_if (b && false))
as_none true = refl
as_none false = refl

pub none_of : (f : List ℕ → ℕ) → total f [] ≡ 0
unfolding total
none_of f = refl

module _ {A : Type 0} (test : ℕ → Bool) (make : ℕ → A) where
  abbrev pub one : ℕ → List A
  one k = if test k then make k ∷ [] or_else []

  abbrev pub picked : ℕ → List A
  picked n = joined one n

  one_long : (k : ℕ) → length (one k) ≡ one_if (test k)
  unfolding if◌then◌or_else◌
  one_long k = go (test k)
    where
      go : (b : Bool) → length (if b then make k ∷ [] or_else []) ≡ one_if b
      go true = refl
      go false = refl

  pub as_many : (n : ℕ) → length (picked n) ≡ count_before test n
  unfolding joined count_before sum
  as_many zero = refl
  as_many (suc n) = length-append (picked n) (one n) ∙ ap₂ ◌+◌ (as_many n) (one_long n)

  one_is : (k : ℕ) → test k ≡ true → one k ≡ make k ∷ []
  unfolding if◌then◌or_else◌
  one_is k h = rw (h) refl

  fewer : (n k : ℕ) → k < n → test k ≡ true → count_before test k < count_before test n
  unfolding count_before sum
  fewer zero k l h = absurd (omega (arith, l))
  fewer (suc n) k l h =
      ⊎_elim
      (λ e. let o : one_if (test n) ≡ 1 = ap one_if (ap test (sym e) ∙ h) in omega (arith, o, ap (count_before test) e))
      (λ q. omega (arith, fewer n k q h))
      (eq-or-lt_of_le (le_of_suc-le-suc l))

  -- the one that is made of k stands at its place, however many follow
  pub at_place : (d : A) (n k : ℕ) → k < n → test k ≡ true → get_or (picked n) (count_before test k) d ≡ make k
  unfolding joined
  at_place d zero k l h = absurd (omega (arith, l))
  at_place d (suc n) k l h = ⊎_elim last (λ q. before q (at_place d n k q h)) (eq-or-lt_of_le (le_of_suc-le-suc l))
    where
      here : get_or (picked k ++ one k) (count_before test k) d ≡ make k
      here = rw (one_is k h, ← as_many k) (ap (λ (i : ℕ). get_or (picked k ++ (make k ∷ [])) i d) (let z : length (picked k) ≡ length (picked k) + 0 = omega arith in z) ∙ get_or-append-add (picked k) (make k ∷ []) 0 d)

      last : k ≡ n → get_or (picked n ++ one n) (count_before test k) d ≡ make k
      last e = rw (← e) here

      within : k < n → count_before test k < length (picked n)
      within q = omega (arith, as_many n, fewer n k q h)

      before : k < n → get_or (picked n) (count_before test k) d ≡ make k → get_or (picked n ++ one n) (count_before test k) d ≡ make k
      before q e = get_or-append (picked n) (one n) d (count_before test k) (within q) ∙ e
