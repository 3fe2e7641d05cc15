-- Only a step whose element binds or assigns a store changes it. Assumes nothing.
use Prim.Native.Nat.{ℕ, ◌+◌, ◌*◌, ◌<◌}
use mathlib.Core.Path.{◌≡◌, refl, ◌∙◌, ap}
use mathlib.Core.Bool.{true}
use mathlib.Core.List.{List, ◌++◌}
use native.Mathlib.Omega.{arith}
use lib.Dec.{eqb, leb}
use lib.ListN.{length, set, drop, replicate, length-replicate}
use lib.Seq.{get_or-set_other}
use borrow.Author.Tests.{eqb-true, leb-false}
use Rattle.std.specs.Prelude.{None, Some}
use Rattle.base_words.specs.Words.{at}
use Rattle.base_words.specs.Counts.{fields, values, assignments}
use Rattle.base_words.proofs.IterLaws.{iter_keeps}
use Rattle.base_words.proofs.ListLaws.{length-tab}
use Rattle.base_words.proofs.WritesLaws.{writes_above}
use Rattle.base_kinds.specs.declared.moves.Move.{Move}
use Rattle.base_kinds.specs.Moves.{on, branch, clearing, making}
use Rattle.base_table.specs.Places.{assigned_in, left_place, operand_number}
use Rattle.base_table.specs.Table.{task_in, entry_count, exit_count, item_at, assignment_count, assignment_at}
use Rattle.base_state.specs.Places.{active_place, ready_place, defined_place, value_place, instance_words, instance_place, shared_place, instances_words}
use Rattle.base_state.specs.Instances.{with_field}
use Rattle.check_limits.specs.Limits.{element_fits, table_fits}
use Rattle.meaning.specs.Values.{Value}
use Rattle.meaning.specs.declared.Name.{Name}
use Rattle.meaning.specs.declared.Tuple.{Tuple}
use Rattle.meaning.specs.Tuples.{value_of}
use Rattle.meaning.specs.Expressions.{expression_of}
use Rattle.meaning.specs.Templates.{binds, bind_one, bound}
use Rattle.meaning.specs.Assignments.{Assigned, assigned_value, assign_one, assigned}
use Rattle.meaning.specs.Requirements.{touched, first_touched}
use Rattle.meaning.specs.Changes.{received, worked, take_one, taken, active_changed, ready_changed, put_one, puts, cleared, moved}
use Rattle.meaning.specs.Refusals.{first_refusal}
use Rattle.meaning.specs.Step.{Site, Outcome, site_of, pool_named, element_named, move_named, instance_of, shared_of, before, work, after_taking, instance_after, instances_after, queues_after, traffic, refused, refusals, step}
use Rattle.proof_steps.proofs.AcceptedParts.{accepted_parts}
use Rattle.proof_steps.proofs.Choices.{by_choice}
use Rattle.proof_steps.proofs.ChangesFit.{touched_within}
use Rattle.proof_steps.proofs.Elements.{pools_few, entry_within, exit_within, task_few}
use Rattle.proof_steps.proofs.Found.{Found, found, element_named_lem}
use Rattle.proof_steps.proofs.InstanceAfter.{branch_entry, branch_exit}
use Rattle.proof_steps.proofs.OnlyOwn.{own_stores}
use Rattle.proof_steps.proofs.Seen.{seen_shared}

-- element el, by move m and branch b, neither binds field c nor assigns it; from 16 on it is a store
pub record Leaves (el : List ℕ) (m : Move) (b c : ℕ) : Type 0 where
  pub unbound : eqb m.receives on ≡ true → (j : ℕ) → binds el b j ≡ true → at (item_at el b j) (left_place + operand_number) ≡ c → ⊥
  pub unassigned : eqb m.assigns on ≡ true → (j : ℕ) → j < assignment_count el → at (assignment_at el j) 0 ≡ c → ⊥

-- THE FLAG OR THE VALUE of field c, by i, is v
module _ (c i : ℕ) (two : i < 2) (v : ℕ) where
  abbrev place : ℕ
  place = defined_place c + i

  abbrev Has : List ℕ → Type 0
  Has h = at h place ≡ v

  has_set : (h : List ℕ) (k w : ℕ) → k < defined_place 0 → Has h → Has (set h k w)
  has_set h k w l e = get_or-set_other h k place w 0 (λ z. omega arith) ∙ e

  has_field : (h : List ℕ) (d w : ℕ) → (d ≡ c → ⊥) → Has h → Has (with_field h d w)
  has_field h d w ne e =
      get_or-set_other (set h (defined_place d) 1) (value_place d) place w 0 (λ z. ne (omega arith)) ∙ get_or-set_other h (defined_place d) place 1 0 (λ z. ne (omega arith)) ∙ e

  -- binds and assignments of other fields
  has_bound : (el : List ℕ) (b : ℕ) (g : Tuple) → ((j : ℕ) → binds el b j ≡ true → at (item_at el b j) (left_place + operand_number) ≡ c → ⊥) → (h : List ℕ) → Has h → Has (bound el b g h)
  unfolding bound bind_one
  has_bound el b g other h e =
      iter_keeps (bind_one el b g) h Has values
      (λ j y l r. by_choice Has (binds el b j) (with_field y (at (item_at el b j) (left_place + operand_number)) (value_of g j)) y (λ z. has_field y _ (value_of g j) (other j z) r) (λ z. r))
      e

  has_value : (h : List ℕ) (d : ℕ) (w : Value) → (d ≡ c → ⊥) → Has h → Has (assigned_value h d w).instance
  unfolding assigned_value
  has_value h d (Some w) ne e = has_field h d w ne e
  has_value h d None ne e = e

  has_assigned : (el : List ℕ) → ((j : ℕ) → j < assignment_count el → at (assignment_at el j) 0 ≡ c → ⊥) → (h : List ℕ) → Has h → Has (assigned el h).instance
  unfolding assigned assign_one
  has_assigned el other h e =
      iter_keeps (assign_one el) (record { defined = true; instance = h }) (λ (y : Assigned). Has y.instance) assignments
      (λ j y l r.
      by_choice (λ (z : Assigned). Has z.instance) (leb (assignment_count el) j) y _ (λ z. r)
      (λ z.
      by_choice (λ (z : Assigned). Has z.instance) y.defined (assigned_value y.instance (at (assignment_at el j) 0) (expression_of (drop assigned_in (assignment_at el j)) y.instance)) y
      (λ d. has_value y.instance (at (assignment_at el j) 0) (expression_of (drop assigned_in (assignment_at el j)) y.instance) (other j (leb-false (assignment_count el) j z)) r)
      (λ d. r)))
      e

  -- tokens and counts
  module _ (el : List ℕ) (fits : element_fits el ≡ true) (m : Move) (b : ℕ) where
    has_taken : (m.takes ≡ branch → b < entry_count el) → (h : List ℕ) → Has h → Has (taken el m b h)
    unfolding taken take_one
    has_taken few h e =
        iter_keeps (take_one el (first_touched m.takes b)) h Has (touched m.takes (entry_count el))
        (λ j y l r. let w = entry_within el fits (first_touched m.takes b + j) (touched_within m.takes b (entry_count el) j few l) in has_set y _ _ (omega (arith, w.0, w.1)) r)
        e

    has_puts : (m.puts ≡ branch → b < exit_count el) → (h : List ℕ) → Has h → Has (puts el m b h)
    unfolding puts put_one
    has_puts few h e =
        iter_keeps (put_one el (first_touched m.puts b)) h Has (touched m.puts (exit_count el))
        (λ j y l r. let w = exit_within el fits (first_touched m.puts b + j) (touched_within m.puts b (exit_count el) j few l) in has_set y _ _ (omega (arith, w.0, w.1)) r)
        e

    has_moved : (m.puts ≡ branch → b < exit_count el) → (h : List ℕ) → Has h → Has (moved el m b h)
    unfolding moved cleared active_changed ready_changed
    has_moved few h e =
        by_choice Has (eqb m.also clearing) (cleared h) (puts el m b (ready_changed el m (active_changed el m h)))
        (λ z. writes_above (λ k. 0) h 0 (defined_place 0) place (omega arith) ∙ e)
        (λ z.
        has_puts few (ready_changed el m (active_changed el m h))
        (has_set (active_changed el m h) (ready_place (task_in el)) _ (omega (arith, task_few el fits)) (has_set h (active_place (task_in el)) _ (omega (arith, task_few el fits)) e)))

-- A STORE after a step that finds its place
module _ (t s : List ℕ) (n : Name) (fits : table_fits t ≡ true) (f : Found t s n) (d : ℕ) (few : d < fields) (leaves : Leaves (element_named t n) (move_named t n) n.branch (fields + d)) (i : ℕ) (two : i < 2) where
  abbrev x : Site
  x = site_of t s n

  abbrev el : List ℕ
  el = element_named t n

  abbrev m : Move
  m = move_named t n

  right : element_fits el ≡ true
  right = element_named_lem t s n fits f

  abbrev v : ℕ
  v = at s (shared_place + (2 * d + i))

  store_before : Has (fields + d) i two v x.instance
  unfolding site_of before instance_of
  store_before =
      let e : defined_place (fields + d) + i ≡ instance_words + (2 * d + i) = omega arith in
      by_choice (λ (o : List ℕ). Has (fields + d) i two v (o ++ shared_of s)) (eqb m.also making) (replicate instance_words 0) (instance_of s (pool_named t n) n.instance)
      (λ z. ap (at (replicate instance_words 0 ++ shared_of s)) e ∙ seen_shared s (replicate instance_words 0) (length-replicate {A = ℕ} instance_words 0) (2 * d + i) (omega arith))
      (λ z.
      ap (at (instance_of s (pool_named t n) n.instance ++ shared_of s)) e
      ∙ seen_shared s (instance_of s (pool_named t n) n.instance) (length-tab (λ k. at s (instance_place (pool_named t n) n.instance + k)) instance_words) (2 * d + i) (omega arith))

  store_worked : Has (fields + d) i two v (work x).instance
  unfolding work received worked site_of
  store_worked =
      let h : List ℕ = received el x.instance m n.branch n.given in
      let r : Has (fields + d) i two v h =
      by_choice (Has (fields + d) i two v) (eqb m.receives on) (bound el n.branch n.given x.instance) x.instance
      (λ e. has_bound (fields + d) i two v el n.branch n.given (leaves.unbound e) x.instance store_before) (λ e. store_before) in
      by_choice (λ (y : Assigned). Has (fields + d) i two v y.instance) (eqb m.assigns on) (assigned el h) (record { defined = true; instance = h })
      (λ e. has_assigned (fields + d) i two v el (leaves.unassigned e) h r) (λ e. r)

  store_after : Has (fields + d) i two v (instance_after x)
  unfolding instance_after after_taking site_of
  store_after =
      has_moved (fields + d) i two v el right m n.branch (branch_exit t s n fits f) (after_taking x)
      (has_taken (fields + d) i two v el right m n.branch (branch_entry t s n fits f) (work x).instance store_worked)

  pub store_kept : length s ≡ instances_words → at (instances_after t s n) (shared_place + (2 * d + i)) ≡ at s (shared_place + (2 * d + i))
  store_kept long =
      let e : instance_words + (2 * d + i) ≡ defined_place (fields + d) + i = omega arith in
      own_stores t s n (omega (arith, f.pool, pools_few t fits)) (omega (arith, long)) (2 * d + i) (omega arith) ∙ ap (at (instance_after x)) e ∙ store_after

-- A STORE THAT A STEP NEITHER BINDS NOR ASSIGNS is as it was, its flag (i = 0) and its value (i = 1), whether the step is accepted or not
pub only_setting : (t s q : List ℕ) (n : Name) → table_fits t ≡ true → length s ≡ instances_words → (d : ℕ) → d < fields → Leaves (element_named t n) (move_named t n) n.branch (fields + d)
    → (i : ℕ) → i < 2 → at (step t s q n).instances (shared_place + (2 * d + i)) ≡ at s (shared_place + (2 * d + i))
unfolding step
only_setting t s q n fits long d few leaves i two =
    by_choice (λ (o : Outcome). at o.instances (shared_place + (2 * d + i)) ≡ at s (shared_place + (2 * d + i))) (eqb (first_refusal (refusals t s q n)) 0)
    (record { answer = traffic (site_of t s n); instances = instances_after t s n; queues = queues_after (site_of t s n) q })
    (refused (first_refusal (refusals t s q n)) s q)
    (λ e. store_kept t s n fits (found t s n (accepted_parts t s q n (eqb-true (first_refusal (refusals t s q n)) 0 e)).0) d few leaves i two long)
    (λ e. refl)
