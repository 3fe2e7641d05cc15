-- THE TEXT OF EVERY TABLE that breaks no limit and no check is at most 31,256 bytes, so that what is written is never too long to be read. Assumes nothing.
use Prim.Native.Char.{code}
use Prim.Native.Nat.{ℕ, zero, suc, ◌+◌, ◌*◌, ◌-◌, ◌≤◌, ◌<◌}
use mathlib.Core.Path.{◌≡◌, refl, sym, ap, subst}
use mathlib.Core.Bool.{Bool, true, ◌&&◌}
use mathlib.Core.List.{List, [], ◌∷◌, ◌++◌}
use native.Mathlib.Omega.{arith}
use lib.Dec.{eqb, leb, ltb}
use lib.ListN.{length, length-append}
use borrow.Author.Tests.{ltb-true, ltb-false, lt-ltb, leb-true}
use Rattle.base_words.specs.All.{all}
use Rattle.base_words.specs.Each.{each}
use Rattle.base_words.specs.Pick.{if◌then◌or_else◌}
use Rattle.base_words.specs.Sum.{sum, hit, one_if}
use Rattle.base_words.specs.Text.{bytes}
use Rattle.base_words.specs.Words.{at}
use Rattle.base_words.specs.Counts.{text_most, pools, elements, pool_numbers, edges, tasks, instances}
use Rattle.base_words.proofs.AllLaws.{all_at, and_left, and_right}
use Rattle.base_words.proofs.SumLaws.{sum_le, sum_ext, sum_mono, sum_add, sum_swap, sum_met}
use Rattle.base_kinds.specs.Kinds.{one, start, start_rcv}
use Rattle.base_table.specs.Places.{pool_place, limit_place, entries_place, exits_place}
use Rattle.base_table.specs.Table.{pool_count, element_count, element_at, kind_in, task_in, entry_count, exit_count, entry_at, exit_at}
use Rattle.check_occurrences.specs.Occurrences.{of_kind, as_exit, as_entry, as_task}
use Rattle.check_limits.specs.Limits.{within, pool_fits, table_fits, element_fits}
use Rattle.check_model.specs.Checks.{lowest}
use Rattle.check_lowest.specs.Model.{model_of}
use Rattle.write_decimals.specs.Decimals.{shown}
use Rattle.write_shown.specs.Shown.{lead, enclosed_by, shown_element, shown_elements, shown_limit, shown_pool, shown_pools, shown_table}
use Rattle.proof_steps.proofs.Choices.{by_test, by_choice}
use Rattle.proof_steps.proofs.Elements.{element_fits_lem, elements_few, task_few}
use Rattle.proof_lengths.proofs.Pieces.{both_short, between_long, joined_short, separated_some}
use Rattle.proof_lengths.proofs.Figures.{one_figure, two_figures, counted, figures_few}
use Rattle.proof_lengths.proofs.ExitsOnce.{exits_once, entries_once, exit_edge, entry_edge, tasks_once, start_once}
use Rattle.proof_lengths.proofs.FewExits.{few_entries, exits_within}
use Rattle.proof_lengths.proofs.FewParts.{every_kind, entries_all, exits_all, task_some}
use Rattle.proof_lengths.proofs.ElementShort.{entry_figures, exit_figures, task_figures, plain_most, element_short}
use Rattle.proof_lengths.proofs.Longest.{starts, joins, splits, works, weight, weight_most, few_splits_lem, few_joins_lem, both_many, together_splits, together_joins, together_both, bounded}

-- how many edges and task numbers have two figures
abbrev edges_beyond : ℕ
edges_beyond = edges + 1 - 10

abbrev tasks_beyond : ℕ
tasks_beyond = tasks + 1 - 10

-- the most bytes of the elements of a pool, and of a pool
abbrev elements_most : ℕ
elements_most = weight_most + edges_beyond + edges_beyond + tasks_beyond - 1

abbrev pool_most : ℕ
pool_most = 6 + (1 + 1 + elements_most + 1 + 2) + 2

-- THE LONGEST TEXT
abbrev pub longest : ℕ
longest = 31256

-- a task or none
work_one : (k : ℕ) → works k ≤ 1
unfolding each
work_one k = leb-true (works k) 1 (every_kind (λ r. leb r.task 1) refl refl k)

work_times : (w f s : ℕ) → w ≤ 1 → f ≤ 1 + s → w * f ≤ w + s
work_times zero f s h l = omega arith
work_times (suc zero) f s h l = omega arith
work_times (suc (suc w)) f s h l = absurd (omega arith)

some_of : (f g : ℕ → ℕ) (c : ℕ) → sum f c + sum g c ≡ 1 → 1 ≤ c
unfolding sum
some_of f g zero e = absurd (omega arith)
some_of f g (suc c) e = omega arith

module _ (t : List ℕ) (fits : table_fits t ≡ true) (sound : lowest (model_of t) ≡ 0) where
  module _ (p : ℕ) (there : p < pool_count t) where
    abbrev el : ℕ → List ℕ
    el e = element_at t p e

    abbrev c : ℕ
    c = element_count t p

    right : (e : ℕ) → e < c → element_fits (el e) ≡ true
    right e l = element_fits_lem t fits p there e l

    -- its edges and tasks, and their figures
    exits_are : sum (λ e. at (el e) exits_place) c ≡ sum (λ e. exit_count (el e)) c
    exits_are = sum_ext (λ e. at (el e) exits_place) (λ e. exit_count (el e)) c (λ e l. sym (exits_all (el e) (right e l)))

    entries_are : sum (λ e. at (el e) entries_place) c ≡ sum (λ e. entry_count (el e)) c
    entries_are = sum_ext (λ e. at (el e) entries_place) (λ e. entry_count (el e)) c (λ e l. sym (entries_all (el e) (right e l)))

    exit_figures_lem : sum (λ e. exit_figures (el e)) c ≤ sum (λ e. exit_count (el e)) c + edges_beyond
    unfolding as_exit
    exit_figures_lem =
        omega (
          arith,
          sum_ext (λ e. exit_figures (el e)) (λ e. sum (λ j. length (shown (exit_at (el e) j))) (exit_count (el e))) c (λ e l. ap (sum (λ j. length (shown (exit_at (el e) j)))) (sym (exits_all (el e) (right e l)))),
          figures_few (λ e. exit_at (el e)) (λ e. exit_count (el e)) c edges_beyond (omega arith)
              (λ x l. exits_once t fits sound p there (x + 10) (omega arith) (omega arith))
              (λ e l j r. omega (arith, (exit_edge t fits sound p there e l j r).1)),
        )

    entry_figures_lem : sum (λ e. entry_figures (el e)) c ≤ sum (λ e. entry_count (el e)) c + edges_beyond
    unfolding as_entry
    entry_figures_lem =
        omega (
          arith,
          sum_ext (λ e. entry_figures (el e)) (λ e. sum (λ j. length (shown (entry_at (el e) j))) (entry_count (el e))) c (λ e l. ap (sum (λ j. length (shown (entry_at (el e) j)))) (sym (entries_all (el e) (right e l)))),
          figures_few (λ e. entry_at (el e)) (λ e. entry_count (el e)) c edges_beyond (omega arith)
              (λ x l. entries_once t fits sound p there (x + 10) (omega arith) (omega arith))
              (λ e l j r. omega (arith, (entry_edge t fits sound p there e l j r).1)),
        )

    task_once : (x : ℕ) → x < tasks_beyond → sum (λ e. hit (task_in (el e)) (x + 10)) c ≤ 1
    unfolding as_task
    task_once x l =
        let q : x + 9 + 1 ≡ x + 10 = omega arith in
        subst (λ (k : ℕ). sum (λ e. hit (task_in (el e)) k) c ≤ 1) q (tasks_once t fits sound p there (x + 9) (omega arith))

    task_figures_lem : sum (λ e. works (kind_in (el e)) * task_figures (el e)) c ≤ sum (λ e. works (kind_in (el e))) c + tasks_beyond
    task_figures_lem =
        let beyond : ℕ → ℕ = λ e. sum (λ x. hit (task_in (el e)) (x + 10)) tasks_beyond in
        omega (
          arith,
          sum_mono (λ e. works (kind_in (el e)) * task_figures (el e)) (λ e. works (kind_in (el e)) + beyond e) c
              (λ e l. work_times (works (kind_in (el e))) (task_figures (el e)) (beyond e) (work_one (kind_in (el e))) (counted tasks_beyond (task_in (el e)) (omega (arith, task_few (el e) (right e l))) (omega arith))),
          sum_add (λ e. works (kind_in (el e))) beyond c,
          sum_swap (λ e x. hit (task_in (el e)) (x + 10)) c tasks_beyond,
          sum_le (λ x. sum (λ e. hit (task_in (el e)) (x + 10)) c) 1 tasks_beyond task_once,
        )

    task_counted : (e : ℕ) → e < c → works (kind_in (el e)) ≤ sum (λ x. hit (task_in (el e)) (x + 1)) tasks
    task_counted e l =
        let met = sum_met (task_in (el e)) tasks (task_few (el e) (right e l)) in
        by_test (ltb 0 (works (kind_in (el e))))
        (λ h.
        let w : works (kind_in (el e)) ≡ one = omega (arith, ltb-true 0 (works (kind_in (el e))) h, work_one (kind_in (el e))) in
        let s : one_if (ltb 0 (task_in (el e))) ≡ 1 = ap one_if (lt-ltb 0 (task_in (el e)) (task_some (el e) (right e l) w)) in
        omega arith)
        (λ h. omega (arith, ltb-false 0 (works (kind_in (el e))) h))

    tasks_few : sum (λ e. works (kind_in (el e))) c ≤ tasks
    unfolding as_task
    tasks_few =
        omega (
          arith,
          sum_mono (λ e. works (kind_in (el e))) (λ e. sum (λ x. hit (task_in (el e)) (x + 1)) tasks) c task_counted,
          sum_swap (λ e x. hit (task_in (el e)) (x + 1)) c tasks,
          sum_le (λ x. sum (λ e. hit (task_in (el e)) (x + 1)) c) 1 tasks (tasks_once t fits sound p there),
        )

    one_start : sum (λ e. starts (kind_in (el e))) c ≡ 1
    unfolding of_kind
    one_start = omega (arith, start_once t fits sound p there, sum_add (λ e. hit (kind_in (el e)) start) (λ e. hit (kind_in (el e)) start_rcv) c)

    -- THE WEIGHT OF ITS ELEMENTS
    weight_few : sum (λ e. weight (kind_in (el e)) (at (el e) entries_place) (at (el e) exits_place)) c ≤ weight_most
    weight_few =
        let w : ℕ → ℕ = λ e. weight (kind_in (el e)) (at (el e) entries_place) (at (el e) exits_place) in
        let m : ℕ → ℕ = λ e. at (el e) entries_place in
        let n : ℕ → ℕ = λ e. at (el e) exits_place in
        let d : ℕ → ℕ = λ e. works (kind_in (el e)) in
        let j : ℕ → ℕ = λ e. joins (kind_in (el e)) in
        let v : ℕ → ℕ = λ e. splits (kind_in (el e)) in
        let a : ℕ → ℕ = λ e. starts (kind_in (el e)) in
        bounded (sum w c) (sum m c) (sum n c) (sum d c) (sum j c) (sum v c) (sum a c) c (elements_few t fits p there) (omega (arith, entries_are, few_entries t fits sound p there)) (omega (arith, entries_are, exits_are, exits_within t fits sound p there)) tasks_few one_start
        (together_splits w m n d j v a c (λ e l. few_splits_lem (el e) (right e l)))
        (together_joins w m n d j v a c (λ e l. few_joins_lem (el e) (right e l)))
        (together_both w m n d j v a c (λ e l. both_many (el e) (right e l)))

    elements_short : length (shown_elements t p) ≤ elements_most
    unfolding shown_elements
    elements_short =
        let plain : ℕ → ℕ = λ e. plain_most (kind_in (el e)) (at (el e) entries_place) (at (el e) exits_place) in
        let m : ℕ → ℕ = λ e. at (el e) entries_place in
        let n : ℕ → ℕ = λ e. at (el e) exits_place in
        let d : ℕ → ℕ = λ e. works (kind_in (el e)) in
        let f : ℕ → ℕ = λ e. works (kind_in (el e)) * task_figures (el e) in
        omega (
          arith,
          separated_some (code "|") (λ e. shown_element (el e)) (λ e. plain e + entry_figures (el e) + exit_figures (el e) + f e) c (some_of _ _ c (start_once t fits sound p there)) (λ e l. element_short (el e) (right e l)),
          sum_add (λ e. plain e + entry_figures (el e) + exit_figures (el e)) f c,
          sum_add (λ e. plain e + entry_figures (el e)) (λ e. exit_figures (el e)) c,
          sum_add plain (λ e. entry_figures (el e)) c,
          sum_add (λ e. plain e + m e + n e) d c,
          sum_add (λ e. plain e + m e) n c,
          sum_add plain m c,
          entry_figures_lem,
          exit_figures_lem,
          task_figures_lem,
          entries_are,
          exits_are,
          weight_few,
        )

    -- its number is 1 to 9, its limit at most 16
    pool_right : (1 ≤ at t (pool_place p)) × (at t (pool_place p) ≤ pool_numbers) × (at t (limit_place p) ≤ instances)
    unfolding table_fits pool_fits
    pool_right =
        let number : Bool = within 1 pool_numbers (at t (pool_place p)) in
        let limit : Bool = leb (at t (limit_place p)) instances in
        let h : pool_fits t p ≡ true = all_at (pool_fits t) (pool_count t) (and_right (within 1 pools (pool_count t)) (all (pool_fits t) (pool_count t)) (and_left (within 1 pools (pool_count t) && all (pool_fits t) (pool_count t)) _ fits)) p there in
        let g : number && limit ≡ true = and_left (number && limit) _ (and_left (number && limit && within 1 elements (element_count t p)) _ h) in
        let i : number ≡ true = and_left number limit g in
        (leb-true 1 (at t (pool_place p)) (and_left (leb 1 (at t (pool_place p))) (leb (at t (pool_place p)) pool_numbers) i), leb-true (at t (pool_place p)) pool_numbers (and_right (leb 1 (at t (pool_place p))) (leb (at t (pool_place p)) pool_numbers) i), leb-true (at t (limit_place p)) instances (and_right number limit g))

    limit_short : length (shown_limit (at t (limit_place p))) ≤ 1 + 2
    unfolding shown_limit
    limit_short = both_short (eqb (at t (limit_place p)) 0) [] (code "," ∷ shown (at t (limit_place p))) (1 + 2) (omega arith) (omega (arith, two_figures (at t (limit_place p)) (omega (arith, pool_right.2))))

    pool_short : length (shown_pool t p) ≤ pool_most
    unfolding shown_pool
    pool_short =
        let limit = at t (limit_place p) in
        let word : List ℕ = if eqb limit 0 then bytes "pool" or_else bytes "miPool" in
        let behind : List ℕ = shown_elements t p ++ shown_limit limit in
        let inside : List ℕ = shown (at t (pool_place p)) ++ (code "," ∷ behind) in
        omega (
          arith,
          length-append word (enclosed_by (code "(") (code ")") inside),
          both_short (eqb limit 0) (bytes "pool") (bytes "miPool") 6 (omega arith) (omega arith),
          between_long (code "(") (code ")") inside,
          length-append (shown (at t (pool_place p))) (code "," ∷ behind),
          one_figure (at t (pool_place p)) (omega (arith, pool_right.1)),
          length-append (shown_elements t p) (shown_limit limit),
          elements_short,
          limit_short,
        )

  -- the first has no bar before it
  piece_short : (p : ℕ) → p < pools → length (if ltb p (pool_count t) then lead (code "|") p ++ shown_pool t p or_else []) ≤ length (lead (code "|") p) + pool_most
  piece_short p l =
      by_choice (λ (w : List ℕ). length w ≤ length (lead (code "|") p) + pool_most) (ltb p (pool_count t)) (lead (code "|") p ++ shown_pool t p) []
      (λ e. omega (arith, length-append (lead (code "|") p) (shown_pool t p), pool_short p (ltb-true p (pool_count t) e)))
      (λ e. omega arith)

  pools_short : length (shown_pools t) ≤ pools * (pool_most + 1) - 1
  unfolding shown_pools lead if◌then◌or_else◌ sum
  pools_short = omega (arith, joined_short (λ p. if ltb p (pool_count t) then lead (code "|") p ++ shown_pool t p or_else []) (λ p. length (lead (code "|") p) + pool_most) pools piece_short)

  -- AT MOST 31,256 BYTES
  pub at_most : length (shown_table t) ≤ longest
  unfolding shown_table
  at_most = omega (arith, length-append (shown_pools t) (code "\n" ∷ []), pools_short)

  pub short : length (shown_table t) ≤ text_most
  short = omega (arith, at_most)
