-- The places of an instance put together by OR: 0 exactly when each fits. Assumes nothing.
use mathlib.Core.Path.{◌≡◌, ◌∙◌, refl, sym, ap, ap₂}
use mathlib.Core.Bool.{Bool, true, false, ◌&&◌}
use mathlib.Core.List.{List}
use mathlib.Core.Logic.{⊎_elim}
use Prim.Native.Nat.{ℕ, zero, suc, ◌+◌, ◌≤◌, ◌<◌}
use native.Mathlib.Nat.{le_of_suc-le-suc, eq-or-lt_of_le}
use native.Mathlib.Omega.{arith}
use lib.Bits.{bit_or}
use lib.Dec.{eqb, leb}
use Rattle.std.specs.Prelude.{min}
use Rattle.std.proofs.Math.Nat.{min-eq_left, min-eq_right}
use lib.ListN.{length, get_or-eq_default}
use borrow.Author.Tests.{eqb-true, leb-true, leb-false}
use Rattle.base_words.specs.All.{all}
use Rattle.base_words.specs.Counts.{count_most}
use Rattle.base_words.specs.Pick.{if◌then◌or_else◌}
use Rattle.base_words.specs.Words.{at}
use Rattle.base_state.specs.Places.{defined_place}
use Rattle.check_limits.specs.Bits.{bits_of}
use Rattle.check_limits.proofs.BitLaws.{bits_more, bits_zero}
use Rattle.state_fits.specs.Fits.{place_fits}
use Rattle.state_check.specs.Places.{excess_of, excess_at}

by_cases : (a n : ℕ) (b c d : Bool) → eqb a 1 ≡ b → leb n count_most ≡ c → eqb n 0 ≡ d → eqb (excess_of a n) 0 ≡ (if eqb n 0 then true or_else eqb a 1 && leb n count_most)
unfolding excess_of if◌then◌or_else◌
by_cases a n false c true e f g = rw (e, g)
by_cases a n false c false e f g = rw (e, g)
by_cases a n true true true e f g = rw (e, f, g)
by_cases a n true true false e f g = rw (e, f, g)
by_cases a n true false false e f g = rw (e, f, g)
by_cases a n true false true e f g = let none : n ≡ 0 = eqb-true n 0 g in let some : count_most < n = leb-false n count_most f in absurd (omega arith)

all_ext : (f g : ℕ → Bool) (n : ℕ) → ((k : ℕ) → f k ≡ g k) → all f n ≡ all g n
unfolding all
all_ext f g zero h = refl
all_ext f g (suc n) h = ap₂ ◌&&◌ (all_ext f g n h) (h n)

and_true : (b : Bool) → b && true ≡ b
and_true true = refl
and_true false = refl

-- tests that pass from e on
all_past : (f : ℕ → Bool) (e n : ℕ) → e ≤ n → ((k : ℕ) → e ≤ k → f k ≡ true) → all f e ≡ all f n
unfolding all
all_past f e zero l h = let q : e ≡ zero = omega arith in ap (all f) q
all_past f e (suc n) l h =
    ⊎_elim (λ q. ap (all f) q)
    (λ lt. all_past f e n (le_of_suc-le-suc lt) h ∙ sym (and_true (all f n)) ∙ rw (h n (le_of_suc-le-suc lt)))
    (eq-or-lt_of_le l)

module _ (u h : List ℕ) where
  pub excess_more : (i b r : ℕ) → b ≡ bits_of (excess_at u h) i → r ≡ excess_at u h i → bit_or b r ≡ bits_of (excess_at u h) (i + 1)
  excess_more i b r e q = rw q (bits_more (excess_at u h) i b e)

  fits : (n r : ℕ) → r ≡ bits_of (excess_at u h) n → eqb r 0 ≡ all (place_fits u h) n
  unfolding place_fits
  fits n r e = rw e (bits_zero (excess_at u h) n ∙ all_ext (λ k. eqb (excess_at u h k) 0) (place_fits u h) n (λ k. by_cases (at u k) (at h k) _ _ _ refl refl refl))

  -- behind its end an instance reads 0
  none : (k : ℕ) → length h ≤ k → place_fits u h k ≡ true
  unfolding place_fits if◌then◌or_else◌
  none k l = rw (get_or-eq_default h 0 {n = k} l)

  pub counts_by : (e r : ℕ) → e ≡ defined_place 0 → r ≡ bits_of (excess_at u h) e → eqb r 0 ≡ all (place_fits u h) (defined_place 0)
  counts_by e r q b = fits e r b ∙ ap (all (place_fits u h)) q

  pub counts_by_past : (e r : ℕ) → e ≡ length h → length h < defined_place 0 → r ≡ bits_of (excess_at u h) e → eqb r 0 ≡ all (place_fits u h) (defined_place 0)
  counts_by_past e r q l b = fits e r b ∙ all_past (place_fits u h) e (defined_place 0) (omega arith) (λ k j. none k (omega arith))

  pub counts_upto : (e r : ℕ) → e ≡ min (defined_place 0) (length h) → r ≡ bits_of (excess_at u h) e → eqb r 0 ≡ all (place_fits u h) (defined_place 0)
  counts_upto e r q b = go (leb (defined_place 0) (length h)) refl
    where
      go : (t : Bool) → leb (defined_place 0) (length h) ≡ t → eqb r 0 ≡ all (place_fits u h) (defined_place 0)
      go true t = counts_by e r (q ∙ min-eq_left (leb-true (defined_place 0) (length h) t)) b
      go false t = let l : length h < defined_place 0 = leb-false (defined_place 0) (length h) t in counts_by_past e r (q ∙ min-eq_right (omega arith)) l b
