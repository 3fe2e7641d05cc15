-- What the summary of a pool answers is what the checks say of the pool. Assumes nothing.
use mathlib.Core.Path.{◌≡◌, refl, ◌∙◌, ap, ap₂}
use mathlib.Core.Bool.{Bool, true, false, not, ◌&&◌}
use mathlib.Core.List.{List}
use Prim.Native.Nat.{ℕ, ◌+◌, ◌<◌}
use native.Mathlib.Omega.{arith}
use lib.Dec.{eqb, ltb}
use Rattle.base_words.specs.Each.{total, each}
use Rattle.base_words.specs.Pick.{if◌then◌or_else◌}
use Rattle.base_words.specs.Sum.{one_if}
use Rattle.base_words.specs.Counts.{edges, tasks, names}
use Rattle.base_kinds.specs.Kinds.{start, start_rcv}
use Rattle.check_tally.specs.Tally.{capped}
use Rattle.check_tally.proofs.TallyLaws.{eqb-capped, ltb-capped, sum_capped}
use Rattle.check_tally.proofs.RegionLaws.{all_ext, once_in_lem, each_none}
use Rattle.check_occurrences.specs.Occurrences.{of_kind, as_exit, as_entry, as_first, as_task, as_received, as_sent, default_once, bound_once}
use Rattle.check_summary.specs.Summary.{summary, tasks_from}
use Rattle.check_summary.proofs.SummaryLaws.{exits_at, entries_at, firsts_at, tasks-at, starts_at, received_at, sent_at, defaults_at, binds_at}
use Rattle.check_model.specs.Checks.{Pool, check2, check3, edge_right, check4, check5, pool_receives, pool_sends, not_sent_there, check7, check8}
use Rattle.check_answers.specs.Answers.{one_start_by, start_receives_by, edge_by, edges_meet_by, tasks_differ_by, receives_by, sends_by, not_sent_there_by, one_default_by, binds_differ_by}

-- a count of 0, 1 or many decides an edge
edge_capped : (x n f : ℕ) → edge_right (capped x) (capped n) (capped f) ≡ edge_right x n f
unfolding edge_right if◌then◌or_else◌
edge_capped x n f = rw (sum_capped x n 0 (omega arith), eqb-capped n 1 (omega arith), eqb-capped f 0 (omega arith)) (go (eqb f 0))
  where
    go : (t : Bool) → (if eqb (x + n) 0 then true or_else eqb n 1 && eqb (capped x) (if t then 1 or_else 0)) ≡ (if eqb (x + n) 0 then true or_else eqb n 1 && eqb x (if t then 1 or_else 0))
    go true = rw (eqb-capped x 1 (omega arith))
    go false = rw (eqb-capped x 0 (omega arith))

-- an element that breaks a check by itself was counted
none_by : (w : ℕ) (f : List ℕ → Bool) (els : List (List ℕ)) → w ≡ capped (total (λ el. one_if (not (f el))) els) → eqb w 0 ≡ each f els
none_by w f els e =
    ap (λ n. eqb n 0) e ∙ eqb-capped (total (λ el. one_if (not (f el))) els) 0 (omega arith) ∙ each_none f (λ el. one_if (not (f el))) els (λ el. refl)

module _ (p : Pool) where
  abbrev s : List ℕ
  s = summary p.elements

  pub by_2 : one_start_by s ≡ check2 p
  unfolding one_start_by check2
  by_2 =
      ap₂ (λ x n. eqb (x + n) 1) (starts_at start (omega arith) (omega arith) p.elements) (starts_at start_rcv (omega arith) (omega arith) p.elements)
      ∙ sum_capped (total (of_kind start) p.elements) (total (of_kind start_rcv) p.elements) 1 (omega arith)

  pub by_3 : start_receives_by p.limit s ≡ check3 p
  unfolding start_receives_by check3
  by_3 =
      ap (λ b. if eqb p.limit 0 then true or_else b)
      (ap (λ x. eqb x 0) (starts_at start (omega arith) (omega arith) p.elements) ∙ eqb-capped (total (of_kind start) p.elements) 0 (omega arith))

  pub by_4 : edges_meet_by s ≡ check4 p
  unfolding edges_meet_by edge_by check4
  by_4 =
      all_ext _ _ edges
      (λ k h.
      let x = exits_at (k + 1) (omega arith) (omega arith) p.elements in
      let n = entries_at (k + 1) (omega arith) (omega arith) p.elements in
      let f = firsts_at (k + 1) (omega arith) (omega arith) p.elements in
      (λ i. edge_right (x i) (n i) (f i)) ∙ edge_capped (total (as_exit (k + 1)) p.elements) (total (as_entry (k + 1)) p.elements) (total (as_first (k + 1)) p.elements))

  pub by_5 : tasks_differ_by s ≡ check5 p
  unfolding tasks_differ_by check5
  by_5 = once_in_lem s tasks_from tasks (λ k. total (as_task (k + 1)) p.elements) (λ k h. tasks-at (k + 1) (omega arith) (omega arith) p.elements)

  pub receives_by_lem : (m : ℕ) → m < names → receives_by s m ≡ pool_receives m p
  unfolding receives_by pool_receives
  receives_by_lem m h = ap (λ n. ltb 0 n) (received_at m h p.elements) ∙ ltb-capped (total (as_received m) p.elements)

  sends_by_lem : (m : ℕ) → m < names → sends_by s m ≡ pool_sends m p
  unfolding sends_by pool_sends
  sends_by_lem m h = ap (λ n. ltb 0 n) (sent_at m h p.elements) ∙ ltb-capped (total (as_sent m) p.elements)

  pub by_6 : not_sent_there_by s ≡ not_sent_there p
  unfolding not_sent_there_by not_sent_there
  by_6 = all_ext _ _ names (λ m h. ap₂ (λ u v. not (u && v)) (receives_by_lem m h) (sends_by_lem m h))

  pub by_7 : one_default_by s ≡ check7 p
  unfolding one_default_by check7
  by_7 = none_by _ default_once p.elements (defaults_at p.elements)

  pub by_8 : binds_differ_by s ≡ check8 p
  unfolding binds_differ_by check8
  by_8 = none_by _ bound_once p.elements (binds_at p.elements)
