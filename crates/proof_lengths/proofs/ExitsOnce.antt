-- In a table that breaks no limit and no check each edge stands at most once as an exit and at most once as an entry of a pool: exits differ, and so do entries. Assumes nothing.
use Prim.Native.Nat.{ℕ, suc, zero, ◌+◌, ◌≤◌, ◌<◌}
use mathlib.Core.Path.{◌≡◌, refl}
use mathlib.Core.Bool.{true, ◌&&◌}
use mathlib.Core.List.{List}
use native.Mathlib.Omega.{arith}
use lib.Dec.{eqb, leb}
use borrow.Author.Tests.{eqb-true, eqb-false, leb-true}
use Rattle.base_words.specs.Each.{total}
use Rattle.base_words.specs.Pick.{if◌then◌or_else◌}
use Rattle.base_words.specs.Sum.{sum, hit}
use Rattle.base_words.specs.Counts.{edges, tasks}
use Rattle.base_words.proofs.AllLaws.{all_at, and_left, and_right}
use Rattle.base_words.proofs.EachLaws.{total-tab}
use Rattle.base_kinds.specs.Kinds.{start, start_rcv}
use Rattle.base_table.specs.Table.{pool_count, element_count, element_at, entry_count, exit_count, entry_at, exit_at}
use Rattle.check_occurrences.specs.Occurrences.{of_kind, as_exit, as_entry, as_first, as_task}
use Rattle.check_limits.specs.Limits.{table_fits}
use Rattle.check_model.specs.Checks.{edge_right, check2, check4, check5, lowest}
use Rattle.check_lowest.specs.Model.{pool_at, model_of}
use Rattle.proof_steps.proofs.Choices.{by_test, by_choice, passed_true}
use Rattle.proof_steps.proofs.Elements.{element_fits_lem, entry_within, exit_within}
use Rattle.proof_steps.proofs.NoSaturation.{ExitsApart}
use Rattle.proof_listing.proofs.ChecksHold.{pool_checked}
use Rattle.proof_listing.proofs.Counting.{sum_at, sum_two, hit_same}

-- an edge that is right stands at most once as an exit and at most once as an entry, and where it is an exit it is an entry
edge_once : (x n f : ℕ) → edge_right x n f ≡ true → (x ≤ 1) × (n ≤ 1) × (x ≤ n)
unfolding edge_right
edge_once x n f h =
    by_test (eqb (x + n) 0)
    (λ e. let z = eqb-true (x + n) 0 e in (omega arith, omega arith, omega arith))
    (λ e.
    let r = passed_true (eqb (x + n) 0) true (eqb n 1 && eqb x (if eqb f 0 then 1 or_else 0)) h e in
    let i = eqb-true n 1 (and_left (eqb n 1) (eqb x (if eqb f 0 then 1 or_else 0)) r) in
    let o = eqb-true x (if eqb f 0 then 1 or_else 0) (and_right (eqb n 1) (eqb x (if eqb f 0 then 1 or_else 0)) r) in
    let w : (if eqb f 0 then 1 or_else 0) ≤ 1 = by_choice (λ (y : ℕ). y ≤ 1) (eqb f 0) 1 0 (λ q. omega arith) (λ q. omega arith) in
    (omega arith, omega arith, omega arith))

-- EDGES MET AT MOST ONCE: c rows, row e has n e places, g e j is the edge at place j of row e
module _ (g : ℕ → ℕ → ℕ) (n : ℕ → ℕ) (c : ℕ) (few : (x : ℕ) → 1 ≤ x → x ≤ edges → sum (λ e. sum (λ j. hit (g e j) x) (n e)) c ≤ 1) (inside : (e : ℕ) → e < c → (j : ℕ) → j < n e → (1 ≤ g e j) × (g e j ≤ edges)) where
  row_once : (x : ℕ) → 1 ≤ x → x ≤ edges → (e : ℕ) → e < c → sum (λ j. hit (g e j) x) (n e) ≤ 1
  row_once x a b e l = omega (arith, few x a b, sum_at (λ e. sum (λ j. hit (g e j) x) (n e)) c e l)

  same_place : (e j k : ℕ) → e < c → j < n e → k < n e → g e j ≡ g e k → j ≡ k
  same_place e j k l r s same =
      by_test (eqb j k) (eqb-true j k)
      (λ d.
      let w = inside e l k s in
      absurd (omega (arith, row_once (g e k) w.0 w.1 e l, sum_two (λ i. hit (g e i) (g e k)) (n e) j k r s (eqb-false j k d), hit_same (g e j) (g e k) same, hit_same (g e k) (g e k) refl)))

  same_row : (e f j k : ℕ) → e < c → f < c → j < n e → k < n f → g e j ≡ g f k → e ≡ f
  same_row e f j k l m r s same =
      by_test (eqb e f) (eqb-true e f)
      (λ d.
      let w = inside f m k s in
      absurd (omega (
        arith,
        few (g f k) w.0 w.1,
        sum_two (λ i. sum (λ q. hit (g i q) (g f k)) (n i)) c e f l m (eqb-false e f d),
        sum_at (λ i. hit (g e i) (g f k)) (n e) j r,
        sum_at (λ i. hit (g f i) (g f k)) (n f) k s,
        hit_same (g e j) (g f k) same,
        hit_same (g f k) (g f k) refl,
      )))

module _ (t : List ℕ) (fits : table_fits t ≡ true) (sound : lowest (model_of t) ≡ 0) (p : ℕ) (there : p < pool_count t) where
  abbrev el : ℕ → List ℕ
  el e = element_at t p e

  edges_right : (k : ℕ) → k < edges → (total (as_exit (k + 1)) (pool_at t p).elements ≤ 1) × (total (as_entry (k + 1)) (pool_at t p).elements ≤ 1) × (total (as_exit (k + 1)) (pool_at t p).elements ≤ total (as_entry (k + 1)) (pool_at t p).elements)
  unfolding check4
  edges_right k l =
      edge_once (total (as_exit (k + 1)) (pool_at t p).elements) (total (as_entry (k + 1)) (pool_at t p).elements) (total (as_first (k + 1)) (pool_at t p).elements)
      (all_at (λ k. edge_right (total (as_exit (k + 1)) (pool_at t p).elements) (total (as_entry (k + 1)) (pool_at t p).elements) (total (as_first (k + 1)) (pool_at t p).elements)) edges
      (pool_checked t sound p there).fourth k l)

  -- EACH EDGE AT MOST ONCE
  pub exits_once : (x : ℕ) → 1 ≤ x → x ≤ edges → sum (λ e. as_exit x (el e)) (element_count t p) ≤ 1
  unfolding pool_at
  exits_once zero a b = absurd (omega arith)
  exits_once (suc k) a b =
      let q : k + 1 ≡ suc k = omega arith in
      let h = (edges_right k b).0 in
      rw q at (rw (total-tab (as_exit (k + 1)) (element_at t p) (element_count t p)) at h)

  pub entries_once : (x : ℕ) → 1 ≤ x → x ≤ edges → sum (λ e. as_entry x (el e)) (element_count t p) ≤ 1
  unfolding pool_at
  entries_once zero a b = absurd (omega arith)
  entries_once (suc k) a b =
      let q : k + 1 ≡ suc k = omega arith in
      let h = (edges_right k b).1 in
      rw q at (rw (total-tab (as_entry (k + 1)) (element_at t p) (element_count t p)) at h)

  -- AN EXIT IS AN ENTRY
  pub exits_enter : (k : ℕ) → k < edges → sum (λ e. as_exit (k + 1) (el e)) (element_count t p) ≤ sum (λ e. as_entry (k + 1) (el e)) (element_count t p)
  unfolding pool_at
  exits_enter k l =
      omega (arith, (edges_right k l).2, total-tab (as_exit (k + 1)) (element_at t p) (element_count t p), total-tab (as_entry (k + 1)) (element_at t p) (element_count t p))

  -- EACH TASK AT MOST ONCE, AND ONE START
  pub tasks_once : (k : ℕ) → k < tasks → sum (λ e. as_task (k + 1) (el e)) (element_count t p) ≤ 1
  unfolding pool_at check5
  tasks_once k l =
      omega (
        arith,
        leb-true (total (as_task (k + 1)) (pool_at t p).elements) 1 (all_at (λ k. leb (total (as_task (k + 1)) (pool_at t p).elements) 1) tasks (pool_checked t sound p there).fifth k l),
        total-tab (as_task (k + 1)) (element_at t p) (element_count t p),
      )

  pub start_once : sum (λ e. of_kind start (el e)) (element_count t p) + sum (λ e. of_kind start_rcv (el e)) (element_count t p) ≡ 1
  unfolding pool_at check2
  start_once =
      omega (
        arith,
        eqb-true (total (of_kind start) (pool_at t p).elements + total (of_kind start_rcv) (pool_at t p).elements) 1 (pool_checked t sound p there).second,
        total-tab (of_kind start) (element_at t p) (element_count t p),
        total-tab (of_kind start_rcv) (element_at t p) (element_count t p),
      )

  -- every exit and every entry is an edge
  pub exit_edge : (e : ℕ) → e < element_count t p → (j : ℕ) → j < exit_count (el e) → (1 ≤ exit_at (el e) j) × (exit_at (el e) j ≤ edges)
  exit_edge e l = exit_within (el e) (element_fits_lem t fits p there e l)

  pub entry_edge : (e : ℕ) → e < element_count t p → (j : ℕ) → j < entry_count (el e) → (1 ≤ entry_at (el e) j) × (entry_at (el e) j ≤ edges)
  entry_edge e l = entry_within (el e) (element_fits_lem t fits p there e l)

  -- THE EXITS OF AN ELEMENT DIFFER, and its entries
  pub exits_apart : (e : ℕ) → e < element_count t p → ExitsApart (el e)
  unfolding as_exit
  exits_apart e l j k r s d same =
      d (same_place (λ i. exit_at (el i)) (λ i. exit_count (el i)) (element_count t p) exits_once exit_edge e j k l r s same)

  pub entries_apart : (e : ℕ) → e < element_count t p → (j k : ℕ) → j < entry_count (el e) → k < entry_count (el e) → (j ≡ k → ⊥) → entry_at (el e) j ≡ entry_at (el e) k → ⊥
  unfolding as_entry
  entries_apart e l j k r s d same =
      d (same_place (λ i. entry_at (el i)) (λ i. entry_count (el i)) (element_count t p) entries_once entry_edge e j k l r s same)

  -- an edge leaves one element, and enters one
  pub one_leaves : (e f j k : ℕ) → e < element_count t p → f < element_count t p → j < exit_count (el e) → k < exit_count (el f) → exit_at (el e) j ≡ exit_at (el f) k → e ≡ f
  unfolding as_exit
  one_leaves = same_row (λ i. exit_at (el i)) (λ i. exit_count (el i)) (element_count t p) exits_once exit_edge

  pub one_enters : (e f j k : ℕ) → e < element_count t p → f < element_count t p → j < entry_count (el e) → k < entry_count (el f) → entry_at (el e) j ≡ entry_at (el f) k → e ≡ f
  unfolding as_entry
  one_enters = same_row (λ i. entry_at (el i)) (λ i. entry_count (el i)) (element_count t p) entries_once entry_edge
