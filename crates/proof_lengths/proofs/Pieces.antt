-- Lengths of texts that are chosen, put between signs or put one behind the other. Assumes nothing.
use Prim.Native.Nat.{ℕ, zero, suc, ◌+◌, ◌*◌, ◌-◌, ◌≤◌, ◌<◌}
use mathlib.Core.Path.{◌≡◌, refl}
use mathlib.Core.Bool.{Bool, true, false}
use mathlib.Core.List.{List, [], ◌∷◌, ◌++◌}
use native.Mathlib.Omega.{arith}
use lib.Dec.{eqb}
use lib.ListN.{length, take, length-append}
use Rattle.base_words.specs.Each.{joined}
use Rattle.base_words.specs.Pick.{if◌then◌or_else◌}
use Rattle.base_words.specs.Sum.{sum}
use Rattle.base_words.proofs.SumLaws.{sum_le}
use Rattle.write_shown.specs.Shown.{lead, separated, enclosed_by}

-- a choice
pub both_short : (b : Bool) (x y : List ℕ) (most : ℕ) → length x ≤ most → length y ≤ most → length (if b then x or_else y) ≤ most
unfolding if◌then◌or_else◌
both_short true x y most h l = h
both_short false x y most h l = l

-- the first k
pub take_short : (k : ℕ) (w : List ℕ) → length (take k w) ≤ k
take_short zero w = omega arith
take_short (suc k) [] = omega arith
take_short (suc k) (b ∷ w) = omega (arith, take_short k w)

-- between two signs
pub between_long : (opener closer : ℕ) (w : List ℕ) → length (enclosed_by opener closer w) ≡ length w + 2
between_long opener closer w = omega (arith, length-append w (closer ∷ []))

-- pieces one behind the other
pub joined_short : (f : ℕ → List ℕ) (most : ℕ → ℕ) (n : ℕ) → ((k : ℕ) → k < n → length (f k) ≤ most k) → length (joined f n) ≤ sum most n
unfolding joined sum
joined_short f most zero h = omega arith
joined_short f most (suc n) h =
    omega (arith, length-append (joined f n) (f n), joined_short f most n (λ k l. h k (omega arith)), h n (omega arith))

-- the same with a sign between them
pub lead_short : (s k : ℕ) → length (lead s k) ≤ 1
unfolding lead
lead_short s k = both_short (eqb k 0) [] (s ∷ []) 1 (omega arith) (omega arith)

lead_none : (s : ℕ) → length (lead s 0) ≡ 0
unfolding lead if◌then◌or_else◌
lead_none s = refl

signed_sum : (s : ℕ) (f : ℕ → List ℕ) (most : ℕ → ℕ) (n : ℕ) → ((k : ℕ) → k < suc n → length (f k) + 1 ≤ most k) → length (joined (λ k. lead s k ++ f k) (suc n)) + 1 ≤ sum most (suc n)
unfolding joined sum
signed_sum s f most zero h = omega (arith, length-append (lead s 0) (f 0), lead_none s, h 0 (omega arith))
signed_sum s f most (suc n) h =
    omega (
      arith,
      length-append (joined (λ k. lead s k ++ f k) (suc n)) (lead s (suc n) ++ f (suc n)),
      length-append (lead s (suc n)) (f (suc n)),
      lead_short s (suc n),
      signed_sum s f most n (λ k l. h k (omega arith)),
      h (suc n) (omega arith),
    )

-- each piece with its sign, but for the first
pub separated_some : (s : ℕ) (f : ℕ → List ℕ) (most : ℕ → ℕ) (n : ℕ) → 1 ≤ n → ((k : ℕ) → k < n → length (f k) + 1 ≤ most k) → length (separated s f n) + 1 ≤ sum most n
separated_some s f most zero some h = absurd (omega arith)
separated_some s f most (suc n) some h = unfold separated in signed_sum s f most n h

pub separated_short : (s : ℕ) (f : ℕ → List ℕ) (most n : ℕ) → ((k : ℕ) → k < n → length (f k) ≤ most) → length (separated s f n) ≤ n * (most + 1) - 1
separated_short s f most zero h = unfold separated joined in omega arith
separated_short s f most (suc n) h =
    let each-one = sum_le (λ k. most + 1) (most + 1) (suc n) (λ k l. omega arith) in
    let together = separated_some s f (λ k. most + 1) (suc n) (omega arith) (λ k l. omega (arith, h k l)) in
    omega arith
