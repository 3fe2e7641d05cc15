-- In a table that breaks no limit and no check a pool has at most 48 exits, and at most 48 entries. Assumes nothing.
use Prim.Native.Nat.{ℕ, zero, suc, ◌+◌, ◌≤◌, ◌<◌}
use mathlib.Core.Path.{◌≡◌, refl, sym, ◌∙◌, ap}
use mathlib.Core.Bool.{true}
use mathlib.Core.List.{List}
use native.Mathlib.Omega.{arith}
use borrow.Author.Tests.{lt-ltb}
use Rattle.base_words.specs.Sum.{sum, hit, one_if}
use Rattle.base_words.specs.Counts.{edges}
use Rattle.base_words.proofs.SumLaws.{sum_le, sum_ext, sum_mono, sum_swap, sum_met}
use Rattle.base_table.specs.Table.{pool_count, element_count, element_at, entry_count, exit_count, entry_at, exit_at}
use Rattle.check_occurrences.specs.Occurrences.{as_exit, as_entry}
use Rattle.check_limits.specs.Limits.{table_fits}
use Rattle.check_model.specs.Checks.{lowest}
use Rattle.check_lowest.specs.Model.{model_of}
use Rattle.proof_lengths.proofs.ExitsOnce.{exits_once, entries_once, exits_enter, exit_edge, entry_edge}

-- a sum of ones
sum_ones : (f : ℕ → ℕ) (n : ℕ) → ((k : ℕ) → k < n → f k ≡ 1) → sum f n ≡ n
unfolding sum
sum_ones f zero h = refl
sum_ones f (suc n) h = omega (arith, sum_ones f n (λ k l. h k (omega arith)), h n (omega arith))

-- THE PIGEONHOLE, rows of different lengths: c rows, row e has n e places, g e j is the edge at place j of row e
module _ (g : ℕ → ℕ → ℕ) (n : ℕ → ℕ) (c : ℕ) (few : (x : ℕ) → 1 ≤ x → x ≤ edges → sum (λ e. sum (λ j. hit (g e j) x) (n e)) c ≤ 1) (inside : (e : ℕ) → e < c → (j : ℕ) → j < n e → (1 ≤ g e j) × (g e j ≤ edges)) where
  -- a row's length, counted edge by edge
  row_counted : (e : ℕ) → e < c → sum (λ x. sum (λ j. hit (g e j) (x + 1)) (n e)) edges ≡ n e
  row_counted e l =
      sym (sum_swap (λ j x. hit (g e j) (x + 1)) (n e) edges)
      ∙ sum_ones (λ j. sum (λ x. hit (g e j) (x + 1)) edges) (n e)
      (λ j r. let w = inside e l j r in sum_met (g e j) edges w.1 ∙ ap one_if (lt-ltb 0 (g e j) w.0))

  rows_counted : sum (λ x. sum (λ e. sum (λ j. hit (g e j) (x + 1)) (n e)) c) edges ≡ sum n c
  rows_counted =
      sym (sum_swap (λ e x. sum (λ j. hit (g e j) (x + 1)) (n e)) c edges)
      ∙ sum_ext (λ e. sum (λ x. sum (λ j. hit (g e j) (x + 1)) (n e)) edges) n c row_counted

  rows_few : sum n c ≤ edges
  rows_few =
      let each_once = sum_le (λ x. sum (λ e. sum (λ j. hit (g e j) (x + 1)) (n e)) c) 1 edges (λ x r. few (x + 1) (omega arith) (omega arith)) in
      omega (arith, rows_counted)

module _ (t : List ℕ) (fits : table_fits t ≡ true) (sound : lowest (model_of t) ≡ 0) (p : ℕ) (there : p < pool_count t) where
  -- AT MOST 48 EXITS
  pub few_exits : sum (λ e. exit_count (element_at t p e)) (element_count t p) ≤ edges
  unfolding as_exit
  few_exits =
      rows_few (λ e. exit_at (element_at t p e)) (λ e. exit_count (element_at t p e)) (element_count t p) (exits_once t fits sound p there) (exit_edge t fits sound p there)

  -- AT MOST 48 ENTRIES
  pub few_entries : sum (λ e. entry_count (element_at t p e)) (element_count t p) ≤ edges
  unfolding as_entry
  few_entries =
      rows_few (λ e. entry_at (element_at t p e)) (λ e. entry_count (element_at t p e)) (element_count t p) (entries_once t fits sound p there) (entry_edge t fits sound p there)

  -- NO MORE EXITS THAN ENTRIES
  pub exits_within : sum (λ e. exit_count (element_at t p e)) (element_count t p) ≤ sum (λ e. entry_count (element_at t p e)) (element_count t p)
  unfolding as_exit as_entry
  exits_within =
      omega (
        arith,
        rows_counted (λ e. exit_at (element_at t p e)) (λ e. exit_count (element_at t p e)) (element_count t p) (exits_once t fits sound p there) (exit_edge t fits sound p there),
        rows_counted (λ e. entry_at (element_at t p e)) (λ e. entry_count (element_at t p e)) (element_count t p) (entries_once t fits sound p there) (entry_edge t fits sound p there),
        sum_mono (λ x. sum (λ e. as_exit (x + 1) (element_at t p e)) (element_count t p)) (λ x. sum (λ e. as_entry (x + 1) (element_at t p e)) (element_count t p)) edges (exits_enter t fits sound p there),
      )
