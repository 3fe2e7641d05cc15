-- Numbers put together by OR are 0 exactly when each is: what a loop without a way out needs. Assumes nothing.
use mathlib.Core.Path.{◌≡◌, ◌∙◌, refl, sym, ap}
use mathlib.Core.Bool.{Bool, true, false, ◌&&◌}
use mathlib.Core.List.{List}
use mathlib.Core.Logic.{⊎_elim}
use Prim.Native.Nat.{ℕ, zero, suc, ◌+◌, ◌≤◌}
use native.Mathlib.Nat.{le_antisymm, le_trans, le_of_suc-le-suc, eq-or-lt_of_le}
use native.Mathlib.Numerals.{add-one}
use native.Mathlib.Omega.{arith}
use lib.Bits.{bit_or, or_add_and, and_le_r}
use lib.Dec.{eqb}
use lib.ListN.{length, take, get_or-eq_default}
use lib.Seq.{get_or-take}
use Rattle.std.proofs.lemmas.List.{length-take}
use borrow.Author.Tests.{ne_eqb}
use Rattle.base_words.specs.All.{all}
use Rattle.base_words.specs.Words.{at}
use Rattle.check_limits.specs.Bits.{bits_of}
use Rattle.check_limits.specs.Limits.{zeros}
use Rattle.check_limits.proofs.SameLaws.{all_ext}

pub or_zero : (a b : ℕ) → eqb (bit_or a b) 0 ≡ eqb a 0 && eqb b 0
or_zero zero b = refl
or_zero (suc a) b = rw (ne_eqb (bit_or (suc a) b) 0 (λ q. omega (arith, or_add_and (suc a) b, and_le_r (suc a) b)), ne_eqb (suc a) 0 (λ q. omega arith))

module _ (f : ℕ → ℕ) where
  pub bits_none : 0 ≡ bits_of f 0
  unfolding bits_of
  bits_none = refl

  -- the loop's next turn
  pub bits_more : (i b : ℕ) → b ≡ bits_of f i → bit_or b (f i) ≡ bits_of f (i + 1)
  unfolding bits_of
  bits_more i b e = rw (add-one, e)

  pub bits_done : (n i b : ℕ) → n ≤ i → i ≤ n → b ≡ bits_of f i → b ≡ bits_of f n
  bits_done n i b h k e = e ∙ ap (bits_of f) (le_antisymm k h)

  pub bits_zero : (n : ℕ) → eqb (bits_of f n) 0 ≡ all (λ k. eqb (f k) 0) n
  unfolding bits_of all
  bits_zero zero = refl
  bits_zero (suc n) = or_zero (bits_of f n) (f n) ∙ rw (bits_zero n)

and_true : (b : Bool) → b && true ≡ b
and_true true = refl
and_true false = refl

-- behind its end a block reads 0
module _ (x : List ℕ) where
  past : (e n : ℕ) → length x ≤ e → e ≤ n → all (λ k. eqb (at x k) 0) e ≡ all (λ k. eqb (at x k) 0) n
  unfolding all
  past e zero h l = let q : e ≡ zero = omega arith in ap (all (λ k. eqb (at x k) 0)) q
  past e (suc n) h l =
      ⊎_elim (λ q. ap (all (λ k. eqb (at x k) 0)) q)
      (λ lt. past e n h (le_of_suc-le-suc lt) ∙ sym (and_true (all (λ k. eqb (at x k) 0) n)) ∙ rw (get_or-eq_default x 0 {n = n} (le_trans h (le_of_suc-le-suc lt))))
      (eq-or-lt_of_le l)

pub zeros_by : (x : List ℕ) (n r : ℕ) → r ≡ bits_of (at (take n x)) (length (take n x)) → eqb r 0 ≡ zeros x n
unfolding zeros
zeros_by x n r e =
    rw e (bits_zero (at (take n x)) (length (take n x)))
    ∙ past (take n x) (length (take n x)) n (omega arith) (omega (arith, length-take n x))
    ∙ all_ext (λ k. eqb (at (take n x) k) 0) (λ k. eqb (at x k) 0) n (λ k l. ap (λ (v : ℕ). eqb v 0) (get_or-take n x k 0 l))
