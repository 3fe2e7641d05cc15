-- What a loop that adds up needs of `sum`, and the laws of counting. Assumes nothing.
use mathlib.Core.Path.{◌≡◌, ◌∙◌, refl, sym, ap, ap₂}
use mathlib.Core.Logic.{⊎_elim}
use Prim.Native.Nat.{ℕ, zero, suc, ◌+◌, ◌*◌, ◌≤◌, ◌<◌}
use native.Mathlib.Nat.{not-suc-le-zero, le_of_suc-le-suc, eq-or-lt_of_le, le_antisymm}
use native.Mathlib.Numerals.{add-one}
use native.Mathlib.Omega.{arith}
use borrow.Author.Tests.{eq-eqb, ne_eqb, lt-ltb}
use lib.Dec.{eqb, ltb, eqb-suc-suc}
use Rattle.base_words.specs.Sum.{sum, one_if, hit}

module _ (f : ℕ → ℕ) where
  pub sum_none : 0 ≡ sum f 0
  unfolding sum
  sum_none = refl

  -- the loop's next turn
  pub sum_more : (i s r : ℕ) → s ≡ sum f i → r ≡ f i → s + r ≡ sum f (i + 1)
  unfolding sum
  sum_more i s r p q = rw (add-one, sum, p, q)

  -- the loop's end
  pub sum_done : (n i s : ℕ) → n ≤ i → i ≤ n → s ≡ sum f i → s ≡ sum f n
  sum_done n i s h k e = rw (le_antisymm h k) e

  pub sum_le : (b n : ℕ) → ((k : ℕ) → k < n → f k ≤ b) → sum f n ≤ n * b
  unfolding sum
  sum_le b zero h = omega arith
  sum_le b (suc n) h = omega (arith, sum_le b n (λ k l. h k (omega arith)), h n (omega arith))

  -- nothing is counted
  pub sum-zero : (n : ℕ) → ((k : ℕ) → k < n → f k ≡ 0) → sum f n ≡ 0
  unfolding sum
  sum-zero zero h = refl
  sum-zero (suc n) h = omega (arith, sum-zero n (λ k l. h k (omega arith)), h n (omega arith))

-- two sums, term by term
pub sum_ext : (f g : ℕ → ℕ) (n : ℕ) → ((k : ℕ) → k < n → f k ≡ g k) → sum f n ≡ sum g n
unfolding sum
sum_ext f g zero h = refl
sum_ext f g (suc n) h = ap₂ ◌+◌ (sum_ext f g n (λ k l. h k (omega arith))) (h n (omega arith))

pub sum_mono : (f g : ℕ → ℕ) (n : ℕ) → ((k : ℕ) → k < n → f k ≤ g k) → sum f n ≤ sum g n
unfolding sum
sum_mono f g zero h = omega arith
sum_mono f g (suc n) h = omega (arith, sum_mono f g n (λ k l. h k (omega arith)), h n (omega arith))

pub sum_add : (f g : ℕ → ℕ) (n : ℕ) → sum (λ k. f k + g k) n ≡ sum f n + sum g n
unfolding sum
sum_add f g zero = refl
sum_add f g (suc n) = omega (arith, sum_add f g n)

-- the two orders of adding up
pub sum_swap : (f : ℕ → ℕ → ℕ) (m n : ℕ) → sum (λ i. sum (λ j. f i j) n) m ≡ sum (λ j. sum (λ i. f i j) m) n
unfolding sum
sum_swap f zero n = sym (sum-zero (λ j. 0) n (λ k l. refl))
sum_swap f (suc m) n = ap (λ s. s + sum (f m) n) (sum_swap f m n) ∙ sym (sum_add (λ j. sum (λ i. f i j) m) (f m) n)

-- a number below n is met once
pub sum_point : (x n : ℕ) → x < n → sum (hit x) n ≡ 1
unfolding sum
sum_point x zero h = absurd (not-suc-le-zero h)
sum_point x (suc n) h =
    ⊎_elim
    (λ q. ap₂ ◌+◌ (sum-zero (hit x) n (λ k l. ap one_if (ne_eqb x k (λ e. omega arith)))) (ap one_if (eq-eqb x n q)))
    (λ l. ap₂ ◌+◌ (sum_point x n l) (ap one_if (ne_eqb x n (λ e. omega arith))))
    (eq-or-lt_of_le (le_of_suc-le-suc h))

-- a number of 1 to b is met once among 1 to b, and 0 is not
pub sum_met : (x b : ℕ) → x ≤ b → sum (λ e. hit x (e + 1)) b ≡ one_if (ltb 0 x)
sum_met zero b h = sum-zero (λ e. hit 0 (e + 1)) b (λ k l. ap one_if (ne_eqb 0 (k + 1) (λ e. omega arith)))
sum_met (suc y) b h =
    sum_ext (λ e. hit (suc y) (e + 1)) (hit y) b (λ k l. ap one_if (ap (eqb (suc y)) (add-one k) ∙ eqb-suc-suc y k))
    ∙ sum_point y b h
    ∙ sym (ap one_if (lt-ltb 0 (suc y) (omega arith)))

-- The pigeonhole. Things i, j of m rows and n columns are met at the numbers below b, h i j e times at e. Where each number is met at most once, all are met at most b times.
pub pigeonhole : (h : ℕ → ℕ → ℕ → ℕ) (m n b : ℕ) → ((e : ℕ) → e < b → sum (λ i. sum (λ j. h i j e) n) m ≤ 1) → sum (λ i. sum (λ j. sum (h i j) b) n) m ≤ b
pigeonhole h m n b few =
    let inner = sum_ext (λ i. sum (λ j. sum (h i j) b) n) (λ i. sum (λ e. sum (λ j. h i j e) n) b) m (λ i l. sum_swap (h i) n b) in
    let outer = sum_swap (λ i e. sum (λ j. h i j e) n) m b in
    omega (arith, inner, outer, sum_le (λ e. sum (λ i. sum (λ j. h i j e) n) m) 1 b few)

pub ruleset sum_loop = (sum_none, sum_more, sum_done)
