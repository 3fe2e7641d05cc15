-- The lengths of numbers of at most two figures, and of such numbers that differ, added up. Assumes nothing.
use Prim.Native.Nat.{ℕ, zero, suc, ◌+◌, ◌-◌, ◌/◌, ◌%◌, ◌≤◌, ◌<◌}
use mathlib.Core.Path.{◌≡◌, refl, ap}
use mathlib.Core.List.{[], ◌∷◌}
use native.Mathlib.Omega.{arith}
use lib.Dec.{ltb}
use lib.ListN.{length, length-append}
use borrow.Author.Tests.{ltb-true, ltb-false}
use Rattle.base_words.specs.Sum.{sum, hit}
use Rattle.base_words.specs.Words.{digits}
use Rattle.base_words.proofs.SumLaws.{sum_le, sum_mono, sum_add, sum_swap}
use Rattle.write_decimals.specs.Decimals.{digit, shown, shown_from}
use Rattle.write_decimals.proofs.DecimalLaws.{shown_one, shown_more}
use Rattle.proof_steps.proofs.Choices.{by_test}
use Rattle.proof_listing.proofs.Counting.{sum_at, hit_same}

pub one_figure : (n : ℕ) → n < 10 → length (shown n) ≤ 1
unfolding shown
one_figure n h = omega (arith, ap length (shown_one (digits - 1) n h))

more_figures : (k n : ℕ) → 10 ≤ n → n < 100 → length (shown_from (suc (suc k)) n) ≤ 2
more_figures k n l h =
    let few : n / 10 < 10 = omega arith in
    omega (arith, ap length (shown_more (suc k) n l), length-append (shown_from (suc k) (n / 10)) (digit (n % 10) ∷ []), ap length (shown_one k (n / 10) few))

pub two_figures : (n : ℕ) → n < 100 → length (shown n) ≤ 2
two_figures n h =
    by_test (ltb n 10)
    (λ e. omega (arith, one_figure n (ltb-true n 10 e)))
    (λ e. unfold shown in more_figures (digits - 2) n (ltb-false n 10 e) h)

-- a sum of ones
pub sum_one : (n : ℕ) → sum (λ k. 1) n ≡ n
unfolding sum
sum_one zero = refl
sum_one (suc n) = omega (arith, sum_one n)

-- NUMBERS below 10 + few, of two figures only where it is one of those from 10 on
pub counted : (few g : ℕ) → g < 10 + few → few ≤ 90 → length (shown g) ≤ 1 + sum (λ x. hit g (x + 10)) few
counted few g h l =
    by_test (ltb g 10)
    (λ e. omega (arith, one_figure g (ltb-true g 10 e)))
    (λ e.
    let r : 10 ≤ g = ltb-false g 10 e in
    let same : g ≡ g - 10 + 10 = omega arith in
    omega (arith, two_figures g (omega arith), sum_at (λ x. hit g (x + 10)) few (g - 10) (omega arith), hit_same g (g - 10 + 10) same))

-- c rows, row e has n e places, g e j is the number at place j of row e; none from 10 on stands twice
module _ (g : ℕ → ℕ → ℕ) (n : ℕ → ℕ) (c few : ℕ) (small : few ≤ 90) (once : (x : ℕ) → x < few → sum (λ e. sum (λ j. hit (g e j) (x + 10)) (n e)) c ≤ 1) (inside : (e : ℕ) → e < c → (j : ℕ) → j < n e → g e j < 10 + few) where
  row_few : (e : ℕ) → e < c → sum (λ j. length (shown (g e j))) (n e) ≤ n e + sum (λ x. sum (λ j. hit (g e j) (x + 10)) (n e)) few
  row_few e l =
      omega (
        arith,
        sum_mono (λ j. length (shown (g e j))) (λ j. 1 + sum (λ x. hit (g e j) (x + 10)) few) (n e) (λ j r. counted few (g e j) (inside e l j r) small),
        sum_add (λ j. 1) (λ j. sum (λ x. hit (g e j) (x + 10)) few) (n e),
        sum_one (n e),
        sum_swap (λ j x. hit (g e j) (x + 10)) (n e) few,
      )

  pub figures_few : sum (λ e. sum (λ j. length (shown (g e j))) (n e)) c ≤ sum n c + few
  figures_few =
      omega (
        arith,
        sum_mono (λ e. sum (λ j. length (shown (g e j))) (n e)) (λ e. n e + sum (λ x. sum (λ j. hit (g e j) (x + 10)) (n e)) few) c row_few,
        sum_add n (λ e. sum (λ x. sum (λ j. hit (g e j) (x + 10)) (n e)) few) c,
        sum_swap (λ e x. sum (λ j. hit (g e j) (x + 10)) (n e)) c few,
        sum_le (λ x. sum (λ e. sum (λ j. hit (g e j) (x + 10)) (n e)) c) 1 few once,
      )
