-- AN ACCEPTED STEP KEEPS AN INSTANCE LIGHT: weighed by weights of its pool, it still has at most 1. Assumes nothing.
use Prim.Native.Nat.{ℕ, ◌+◌, ◌≤◌, ◌<◌}
use mathlib.Core.Path.{◌≡◌, refl, sym, ◌∙◌, ap}
use mathlib.Core.Bool.{true, false, false≢true}
use mathlib.Core.List.{List, ◌++◌}
use mathlib.Core.Logic.{◌⊎◌, inl, inr}
use native.Mathlib.Omega.{arith}
use lib.Dec.{eqb, leb}
use lib.ListN.{length, drop, set, replicate, length-replicate, get_or-replicate}
use lib.Seq.{get_or-set_other}
use borrow.Author.Tests.{eqb-true, eqb-false, ne_eqb}
use Rattle.std.specs.Prelude.{None, Some}
use Rattle.base_words.specs.Sum.{sum}
use Rattle.base_words.specs.Words.{at}
use Rattle.base_words.specs.Counts.{values, assignments}
use Rattle.base_words.proofs.IterLaws.{iter_keeps}
use Rattle.base_words.proofs.ListLaws.{length-tab}
use Rattle.base_words.proofs.SumLaws.{sum-zero}
use Rattle.base_kinds.specs.declared.moves.Move.{Move}
use Rattle.base_kinds.specs.Kinds.{start_rcv, end, kind_of}
use Rattle.base_kinds.specs.Moves.{branch, on, up, down, making, clearing}
use Rattle.base_table.specs.Places.{left_place, operand_number, assigned_in}
use Rattle.base_table.specs.Table.{element_count, element_at, kind_in, task_in, mode_in, entry_count, exit_count, entry_at, exit_at, item_at, assignment_count, assignment_at}
use Rattle.base_state.specs.Places.{defined_place, value_place, instance_words, instance_place}
use Rattle.base_state.specs.Instances.{with_field}
use Rattle.check_limits.specs.Limits.{element_fits, table_fits}
use Rattle.meaning.specs.declared.Tuple.{Tuple}
use Rattle.meaning.specs.declared.Name.{Name}
use Rattle.meaning.specs.Values.{Value}
use Rattle.meaning.specs.Tuples.{value_of}
use Rattle.meaning.specs.Expressions.{expression_of}
use Rattle.meaning.specs.Templates.{binds, bind_one, bound}
use Rattle.meaning.specs.Assignments.{Assigned, assigned_value, assign_one, assigned}
use Rattle.meaning.specs.Changes.{received, worked, taken, moved}
use Rattle.meaning.specs.Refusals.{first_refusal}
use Rattle.meaning.specs.Requirements.{counts_permit}
use Rattle.meaning.specs.Step.{Site, site_of, pool_named, element_named, move_named, instance_of, shared_of, before, work, after_taking, instance_after, refusals}
use Rattle.state_fits.specs.Fits.{state_fits}
use Rattle.proof_steps.proofs.Choices.{by_test, by_choice, chosen, passed}
use Rattle.proof_steps.proofs.Rows.{row_making, row_kind}
use Rattle.proof_steps.proofs.Found.{Found, element_named_lem}
use Rattle.proof_steps.proofs.InstanceAfter.{branch_entry, branch_exit, fit_work}
use Rattle.proof_steps.proofs.InstanceBefore.{instance_before}
use Rattle.proof_steps.proofs.Seen.{seen_own}
use Rattle.proof_steps.proofs.Traffic.{here, site}
use Rattle.proof_nesting.proofs.Weights.{putting, taking, counts, some, some_is, putting_most, taking_least, counts_away, row_takes, row_raises, row_counts, is_task}
use Rattle.proof_nesting.proofs.Wholes.{putting_least, taking_most, row_puts, row_end, row_clearing, row_makes}
use Rattle.proof_nesting.proofs.Flows.{move_in, Tried, Goes, Sound}
use Rattle.proof_nesting.proofs.Events.{one_exit, one_entry}
use Rattle.proof_nesting.proofs.Mass.{weigh, mass, mass_same}
use Rattle.proof_nesting.proofs.Moved.{weight_at, weight, move_mass, clear_mass, move_whole}
use Rattle.proof_nesting.proofs.Weighing.{Weighing, Exact, sum_first}

-- FIELDS stand behind the tokens and counts
module _ (k : ℕ) (below : k < defined_place 0) where
  field_apart : (h : List ℕ) (d v : ℕ) → at (with_field h d v) k ≡ at h k
  field_apart h d v =
      get_or-set_other (set h (defined_place d) 1) (value_place d) k v 0 (λ e. omega arith) ∙ get_or-set_other h (defined_place d) k 1 0 (λ e. omega arith)

  bound_apart : (el : List ℕ) (b : ℕ) (g : Tuple) (h : List ℕ) → at (bound el b g h) k ≡ at h k
  unfolding bound bind_one
  bound_apart el b g h =
      iter_keeps (bind_one el b g) h (λ y. at y k ≡ at h k) values
      (λ j y l e.
      by_choice (λ (z : List ℕ). at z k ≡ at h k) (binds el b j) (with_field y (at (item_at el b j) (left_place + operand_number)) (value_of g j)) y
      (λ t. field_apart y (at (item_at el b j) (left_place + operand_number)) (value_of g j) ∙ e) (λ t. e))
      refl

  value_apart : (h : List ℕ) (d : ℕ) (v : Value) → at (assigned_value h d v).instance k ≡ at h k
  unfolding assigned_value
  value_apart h d (Some v) = field_apart h d v
  value_apart h d None = refl

  assigned_apart : (el h : List ℕ) → at (assigned el h).instance k ≡ at h k
  unfolding assigned assign_one
  assigned_apart el h =
      iter_keeps (assign_one el) (record { defined = true; instance = h }) (λ (y : Assigned). at y.instance k ≡ at h k) assignments
      (λ j y l e.
      by_choice (λ (z : Assigned). at z.instance k ≡ at h k) (leb (assignment_count el) j) y _ (λ t. e)
      (λ t.
      by_choice (λ (z : Assigned). at z.instance k ≡ at h k) y.defined _ y
      (λ u. value_apart y.instance (at (assignment_at el j) 0) (expression_of (drop assigned_in (assignment_at el j)) y.instance) ∙ e) (λ u. e)))
      refl

  worked_apart : (el h : List ℕ) (m : Move) → at (worked el h m).instance k ≡ at h k
  unfolding worked
  worked_apart el h m =
      by_choice (λ (z : Assigned). at z.instance k ≡ at h k) (eqb m.assigns on) (assigned el h) (record { defined = true; instance = h }) (λ e. assigned_apart el h) (λ e. refl)

  received_apart : (el h : List ℕ) (m : Move) (b : ℕ) (g : Tuple) → at (received el h m b g) k ≡ at h k
  unfolding received
  received_apart el h m b g = by_choice (λ (z : List ℕ). at z k ≡ at h k) (eqb m.receives on) (bound el b g h) h (λ e. bound_apart el b g h) (λ e. refl)

  pub work_apart : (x : Site) → at (work x).instance k ≡ at x.instance k
  unfolding work
  work_apart x = worked_apart x.element (received x.element x.instance x.move x.branch x.given) x.move ∙ received_apart x.element x.instance x.move x.branch x.given

module _ (t s q : List ℕ) (n : Name) (fits : table_fits t ≡ true) (state : state_fits t s q ≡ true) (accepted : first_refusal (refusals t s q n) ≡ 0) where
  abbrev p : ℕ
  p = pool_named t n

  module _ (sound : Sound (element_at t p) (element_count t p)) (w d : ℕ → ℕ) (weighing : Weighing (element_at t p) (element_count t p) w d) where
    abbrev x : Site
    x = site_of t s n

    abbrev el : List ℕ
    el = element_at t p n.element

    abbrev m : Move
    m = move_in el n.phase

    f : Found t s n
    f = here t s q n fits accepted

    right : element_fits el ≡ true
    unfolding element_named
    right = element_named_lem t s n fits f

    enters : m.takes ≡ branch → n.branch < entry_count el
    unfolding element_named move_named
    enters = branch_entry t s n fits f

    leaves : m.puts ≡ branch → n.branch < exit_count el
    unfolding element_named move_named
    leaves = branch_exit t s n fits f

    numbered : (m.active ≡ 0 → ⊥) ⊎ (m.ready ≡ 0 → ⊥) → 1 ≤ task_in el
    numbered o =
        let z : task_in el ≡ 0 → ⊥ = sound.tasks_numbered n.element f.element (row_counts (kind_in el) (mode_in el) n.phase o) in
        by_test (eqb (task_in el) 0) (λ e. absurd (z (eqb-true _ 0 e))) (λ e. let y = eqb-false (task_in el) 0 e in omega (arith, y))

    abbrev y : List ℕ
    y = (work x).instance

    long : defined_place 0 ≤ length y
    long = let e = (fit_work t s n fits f (instance_before t s q n fits state accepted)).long in omega (arith, e)

    permits : counts_permit el x.instance m n.branch ≡ true
    unfolding site_of element_named move_named
    permits = (site t s q n fits accepted).permits

    after_is : instance_after x ≡ moved el m n.branch (taken el m n.branch y)
    unfolding instance_after after_taking site_of element_named move_named
    after_is = refl

    apart : (j k : ℕ) → j < entry_count el → k < entry_count el → (j ≡ k → ⊥) → entry_at el j ≡ entry_at el k → ⊥
    apart j k = sound.entries_apart n.element j k f.element

    -- what it sees of its own, where the instance is made and where it was there
    abbrev zeros : List ℕ
    zeros = replicate instance_words 0

    blank : eqb m.also making ≡ true → weight w d x.instance ≡ 0
    unfolding site_of before move_named element_named mass weigh
    blank e =
        let h : x.instance ≡ zeros ++ shared_of s = ap (λ (o : List ℕ). o ++ shared_of s) (chosen (eqb m.also making) zeros (instance_of s p n.instance) e) in
        ap (weight w d) h
        ∙ sum-zero (λ k. weigh (weight_at w d k) (at (zeros ++ shared_of s) k)) (defined_place 0)
        (λ k l. ap (weigh (weight_at w d k)) (seen_own s zeros (length-replicate {A = ℕ} instance_words 0) k (omega arith) ∙ get_or-replicate instance_words k 0 0 (omega arith)))

    own_long : length (instance_of s p n.instance) ≡ instance_words
    unfolding instance_of
    own_long = length-tab (λ k. at s (instance_place p n.instance + k)) instance_words

    old : eqb m.also making ≡ false → weight w d x.instance ≡ weight w d (instance_of s p n.instance)
    unfolding site_of before move_named element_named
    old e =
        let h : x.instance ≡ instance_of s p n.instance ++ shared_of s = ap (λ (o : List ℕ). o ++ shared_of s) (passed (eqb m.also making) zeros (instance_of s p n.instance) e) in
        mass_same (weight_at w d) x.instance (instance_of s p n.instance)
        (λ k l. ap (λ (y : List ℕ). at y k) h ∙ seen_own s (instance_of s p n.instance) own_long k (omega arith))

    no_move : m.kind ≡ 0 → ⊥
    unfolding move_named element_named
    no_move = f.move

    made_light : eqb m.also making ≡ true → putting w el m n.branch + counts up (d (task_in el)) m ≤ 1
    unfolding kind_of
    made_light e =
        let a : kind_in el ≡ start_rcv = sym (row_kind (kind_in el) (mode_in el) n.phase no_move) ∙ row_making (kind_in el) (mode_in el) n.phase (eqb-true _ making e) in
        let c : exit_count el ≡ 1 = one_exit el start_rcv a refl in
        let l = weighing.made n.element f.element a in
        let one : sum (λ j. w (exit_at el j)) (exit_count el) ≡ w (exit_at el 0) = sum_one (λ j. w (exit_at el j)) (exit_count el) c in
        let pm = putting_most w el m n.branch (λ z. omega (arith, one, l)) (λ z. let b : n.branch ≡ 0 = (let r = leaves z in omega (arith, r, c)) in let v : w (exit_at el n.branch) ≡ w (exit_at el 0) = ap (λ j. w (exit_at el j)) b in omega (arith, v, l)) in
        let few = some_most m.puts in
        let z = counts_away up (d (task_in el)) m (λ u. no_count a (row_raises (kind_in el) (mode_in el) n.phase (inl u))) (λ u. no_count a (row_raises (kind_in el) (mode_in el) n.phase (inr u))) in
        omega (arith, pm, few, z)
      where
        sum_one : (g : ℕ → ℕ) (k : ℕ) → k ≡ 1 → sum g k ≡ g 0
        sum_one g k e = Rattle.proof_nesting.proofs.Weighing.sum_first g k e

        some_most : (cell : ℕ) → Rattle.proof_nesting.proofs.Weights.some cell ≤ 1
        some_most cell = Rattle.proof_nesting.proofs.Weights.some_most cell

        no_count : kind_in el ≡ start_rcv → is_task (kind_in el) ≡ true → ⊥
        no_count a h = false≢true (sym (ap is_task a) ∙ h)

    pub step_light : (eqb m.also making ≡ false → weight w d (instance_of s p n.instance) ≤ 1) → weight w d (instance_after x) ≤ 1
    step_light light =
        let v : weight w d (instance_after x) ≡ weight w d (moved el m n.branch (taken el m n.branch y)) = ap (weight w d) after_is in
        by_test (eqb m.also clearing)
        (λ e. omega (arith, v, clear_mass w d el m n.branch right apart enters leaves numbered x.instance y long (λ k l. work_apart k l x) permits e))
        (λ e.
        let r = move_mass w d el m n.branch right apart enters leaves numbered x.instance y long (λ k l. work_apart k l x) permits e in
        by_test (eqb m.also making)
        (λ u. omega (arith, v, r, blank u, made_light u))
        (λ u.
        let b = weighing.balanced n.element f.element n.phase n.branch (record { old = eqb-false _ making u; enters = enters; leaves = leaves }) in
        omega (arith, v, r, b, old u, light u)))

    -- BY EXACT WEIGHTS, where no count is above 1: the weight stays, but for an end, which takes 1, and an instance that is made has 1
    module _ (exact : Exact (element_at t p) (element_count t p) w d) (small : (k : ℕ) → k < defined_place 0 → at x.instance k ≤ 1) where
      after_weight : weight w d (instance_after x) ≡ weight w d (moved el m n.branch (taken el m n.branch y))
      after_weight = ap (weight w d) after_is

      moved_most : eqb m.also clearing ≡ false
          → weight w d (instance_after x) + (taking w el m n.branch + counts down (d (task_in el)) m) ≤ weight w d x.instance + (putting w el m n.branch + counts up (d (task_in el)) m)
      moved_most e = let r = move_mass w d el m n.branch right apart enters leaves numbered x.instance y long (λ k l. work_apart k l x) permits e in omega (arith, after_weight, r)

      moved_least : eqb m.also clearing ≡ false
          → weight w d x.instance + (putting w el m n.branch + counts up (d (task_in el)) m) ≤ weight w d (instance_after x) + (taking w el m n.branch + counts down (d (task_in el)) m)
      moved_least e =
          let r = move_whole w d el m n.branch right apart enters leaves numbered x.instance y long (λ k l. work_apart k l x) permits
          (λ i j. sound.exits_apart n.element i j f.element) (λ k l. omega (arith, work_apart k l x, small k l)) e in
          omega (arith, after_weight, r)

      no_counts : (way : ℕ) → (is_task (kind_in el) ≡ true → ⊥) → (way ≡ 0 → ⊥) → counts way (d (task_in el)) m ≡ 0
      no_counts way away some =
          counts_away way (d (task_in el)) m
          (λ e. away (row_counts (kind_in el) (mode_in el) n.phase (inl (λ z. some (sym e ∙ z)))))
          (λ e. away (row_counts (kind_in el) (mode_in el) n.phase (inr (λ z. some (sym e ∙ z)))))

      pub step_same : Goes el → eqb m.also making ≡ false → weight w d (instance_after x) ≡ weight w d (instance_of s p n.instance)
      step_same g u =
          let c : eqb m.also clearing ≡ false = ne_eqb _ clearing (λ e. g (row_clearing (kind_in el) (mode_in el) n.phase e)) in
          let tried : Tried el m n.branch = record { old = eqb-false _ making u; enters = enters; leaves = leaves } in
          omega (
            arith,
            moved_most c,
            moved_least c,
            weighing.balanced n.element f.element n.phase n.branch tried,
            exact.whole n.element f.element g n.phase n.branch tried,
            old u,
          )

      pub step_end : kind_in el ≡ end → weight w d (instance_after x) + 1 ≡ weight w d (instance_of s p n.instance)
      unfolding kind_of
      step_end is =
          let r = row_end (kind_in el) (mode_in el) n.phase no_move is in
          let one : w (entry_at el 0) ≡ 1 = exact.ended n.element f.element is in
          let many : entry_count el ≡ 1 = one_entry el end is refl in
          let all : sum (λ j. w (entry_at el j)) (entry_count el) ≡ w (entry_at el 0) = sum_first (λ j. w (entry_at el j)) (entry_count el) many in
          let tl = taking_least w el m n.branch (row_takes (kind_in el) (mode_in el) n.phase) (λ e. omega (arith, all, one)) (λ e. absurd (omega (arith, e, r.0))) in
          let tm = taking_most w el m n.branch (λ e. omega (arith, all, one)) (λ e. absurd (omega (arith, e, r.0))) in
          let so : some m.takes ≡ 1 = some_is m.takes (λ z. omega (arith, z, r.0)) in
          let pm = putting_most w el m n.branch (λ e. absurd (omega (arith, e, r.1))) (λ e. absurd (omega (arith, e, r.1))) in
          let po : some m.puts ≡ 0 = ap (λ y. some y) r.1 in
          let no_task : is_task (kind_in el) ≡ true → ⊥ = (λ h. false≢true (sym (ap is_task is) ∙ h)) in
          let c : eqb m.also clearing ≡ false = ne_eqb m.also clearing (λ e. omega (arith, e, r.2)) in
          omega (
            arith,
            moved_most c,
            moved_least c,
            tl,
            tm,
            so,
            pm,
            po,
            no_counts up no_task (λ z. omega arith),
            no_counts down no_task (λ z. omega arith),
            old (ne_eqb m.also making (λ e. omega (arith, e, r.2))),
          )

      pub step_made : eqb m.also making ≡ true → weight w d (instance_after x) ≡ 1
      unfolding kind_of
      step_made u =
          let e : m.also ≡ making = eqb-true _ making u in
          let a : kind_in el ≡ start_rcv = sym (row_kind (kind_in el) (mode_in el) n.phase no_move) ∙ row_making (kind_in el) (mode_in el) n.phase e in
          let r = row_makes (kind_in el) (mode_in el) n.phase e in
          let one : w (exit_at el 0) ≡ 1 = exact.born n.element f.element a in
          let many : exit_count el ≡ 1 = one_exit el start_rcv a refl in
          let all : sum (λ j. w (exit_at el j)) (exit_count el) ≡ w (exit_at el 0) = sum_first (λ j. w (exit_at el j)) (exit_count el) many in
          let pm = putting_most w el m n.branch (λ q. omega (arith, all, one)) (λ q. absurd (omega (arith, q, r.1))) in
          let pl = putting_least w el m n.branch (row_puts (kind_in el) (mode_in el) n.phase) (λ q. omega (arith, all, one)) (λ q. absurd (omega (arith, q, r.1))) in
          let so : some m.puts ≡ 1 = some_is m.puts (λ z. omega (arith, z, r.1)) in
          let tm = taking_most w el m n.branch (λ q. absurd (omega (arith, q, r.0))) (λ q. absurd (omega (arith, q, r.0))) in
          let to : some m.takes ≡ 0 = ap (λ y. some y) r.0 in
          let no_task : is_task (kind_in el) ≡ true → ⊥ = (λ h. false≢true (sym (ap is_task a) ∙ h)) in
          let c : eqb m.also clearing ≡ false = ne_eqb m.also clearing (λ q. omega (arith, e, q)) in
          omega (
            arith,
            moved_most c,
            moved_least c,
            pm,
            pl,
            so,
            tm,
            to,
            no_counts up no_task (λ z. omega arith),
            no_counts down no_task (λ z. omega arith),
            blank u,
          )
