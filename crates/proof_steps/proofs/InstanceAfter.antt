-- The instance after a step fits, where the one before did. Assumes nothing.
use Prim.Native.Nat.{ℕ, ◌+◌, ◌<◌}
use mathlib.Core.Path.{◌≡◌, ◌∙◌, ap, subst}
use mathlib.Core.Bool.{true, ◌||◌}
use mathlib.Core.List.{List}
use native.Mathlib.Omega.{arith}
use lib.Dec.{eqb, ltb}
use borrow.Author.Tests.{eqb-true, ltb-true, eq-eqb, ne_eqb}
use Rattle.base_words.specs.Words.{at}
use Rattle.base_words.specs.Counts.{fields_named}
use Rattle.base_words.proofs.AllLaws.{and_left, and_right}
use Rattle.base_kinds.specs.declared.moves.Move.{Move}
use Rattle.base_kinds.specs.Kinds.{kind_of}
use Rattle.base_kinds.specs.Moves.{a, na, na_nc, branch, on, clearing, mode_of}
use Rattle.base_table.specs.Places.{form_place, left_place, operand_number, binding}
use Rattle.base_table.specs.Table.{kind_in, task_in, mode_in, entry_count, exit_count, entry_at, exit_at, message_length, item_at}
use Rattle.base_state.specs.Places.{token_place, active_place, ready_place, defined_place}
use Rattle.check_limits.specs.Limits.{element_fits, table_fits}
use Rattle.meaning.specs.declared.Name.{Name}
use Rattle.meaning.specs.Templates.{binds, bound}
use Rattle.meaning.specs.Assignments.{Assigned, assigned}
use Rattle.meaning.specs.Requirements.{branch_count}
use Rattle.meaning.specs.Changes.{received, worked, active_changed, ready_changed, puts, cleared, moved}
use Rattle.meaning.specs.Step.{Site, site_of, pool_named, element_named, move_named, receives, sends, work, after_taking, instance_after}
use Rattle.state_fits.specs.Fits.{usable}
use Rattle.proof_steps.proofs.Choices.{by_test, by_choice, chosen, passed}
use Rattle.proof_steps.proofs.Rows.{row_kind, row_mode, row_branch, row_active, row_ready, row_speaks}
use Rattle.proof_steps.proofs.Elements.{task_few, entry_within, exit_within, assigned_field, bound_field}
use Rattle.proof_steps.proofs.Found.{Found, element_named_lem, message_there}
use Rattle.proof_steps.proofs.Usable.{entry_usable, exit_usable, active_usable, ready_usable}
use Rattle.proof_steps.proofs.InstanceFits.{Fit, fit_cleared}
use Rattle.proof_steps.proofs.ChangesFit.{fit_bound, fit_assigned, fit_taken, fit_puts, fit_active, fit_ready}

mode_above : (m : ℕ) → a < mode_of m → a < m
unfolding mode_of
mode_above m l =
    by_test (eqb m na_nc) (λ e. let z = eqb-true m na_nc e in omega arith)
    (λ e. subst (λ k. a < k) (passed (eqb m na_nc) na m e) l)

module _ (t s : List ℕ) (n : Name) (fits : table_fits t ≡ true) (f : Found t s n) where
  abbrev x : Site
  x = site_of t s n

  abbrev el : List ℕ
  el = element_named t n

  abbrev m : Move
  m = move_named t n

  abbrev u : List ℕ
  u = usable t (pool_named t n)

  right_element : element_fits el ≡ true
  right_element = element_named_lem t s n fits f

  -- THE BRANCH is one of the edges that it stands for
  pub branch_entry : m.takes ≡ branch → n.branch < entry_count el
  unfolding branch_count
  branch_entry e = subst (λ k. n.branch < k) (chosen (eqb m.takes branch) (entry_count el) _ (eq-eqb m.takes branch e)) f.branch

  pub branch_exit : m.puts ≡ branch → n.branch < exit_count el
  unfolding branch_count move_named
  branch_exit e =
      let o = row_branch (kind_in el) (mode_in el) n.phase e in
      subst (λ k. n.branch < k)
      (passed (eqb m.takes branch) (entry_count el) _ (ne_eqb m.takes branch o) ∙ chosen (eqb m.puts branch) (exit_count el) 1 (eq-eqb m.puts branch e)) f.branch

  -- THE PLACES that it touches are places that the pool may use
  entries_right : (j : ℕ) → j < entry_count el → (token_place (entry_at el j) < defined_place 0) × (at u (token_place (entry_at el j)) ≡ 1)
  unfolding element_named
  entries_right j l =
      let w = entry_within el right_element j l in
      let r : token_place (entry_at el j) < defined_place 0 = omega (arith, w.0, w.1) in
      (r, entry_usable t (pool_named t n) n.element f.element j l r)

  exits_right : (j : ℕ) → j < exit_count el → (token_place (exit_at el j) < defined_place 0) × (at u (token_place (exit_at el j)) ≡ 1)
  unfolding element_named
  exits_right j l =
      let w = exit_within el right_element j l in
      let r : token_place (exit_at el j) < defined_place 0 = omega (arith, w.0, w.1) in
      (r, exit_usable t (pool_named t n) n.element f.element j l r)

  active_place_lem : active_place (task_in el) < defined_place 0
  active_place_lem = omega (arith, task_few el right_element)

  ready_place_lem : ready_place (task_in el) < defined_place 0
  ready_place_lem = omega (arith, task_few el right_element)

  lasting : a < m.mode → a < mode_in el
  unfolding move_named
  lasting l = mode_above (mode_in el) (subst (λ k. a < k) (row_mode (kind_in el) (mode_in el) n.phase f.move) l)

  active_right : (m.active ≡ 0 → ⊥) → at u (active_place (task_in el)) ≡ 1
  unfolding element_named move_named
  active_right o =
      active_usable t (pool_named t n) n.element f.element (lasting (row_active (kind_in el) (mode_in el) n.phase o)) active_place_lem

  ready_right : (m.ready ≡ 0 → ⊥) → at u (ready_place (task_in el)) ≡ 1
  unfolding element_named move_named
  ready_right o =
      ready_usable t (pool_named t n) n.element f.element (lasting (row_ready (kind_in el) (mode_in el) n.phase o))
      (subst (λ k. 0 < (kind_of k).receives + (kind_of k).sends) (row_kind (kind_in el) (mode_in el) n.phase f.move) (row_speaks (kind_in el) (mode_in el) n.phase o))
      ready_place_lem

  -- THE FIELDS
  binds_right : receives x ≡ true → (j : ℕ) → binds el n.branch j ≡ true → at (item_at el n.branch j) (left_place + operand_number) < fields_named
  unfolding binds
  binds_right e j h =
      bound_field el right_element n.branch (message_there t s n fits f (ap (λ b. b || sends x) e)) j
      (ltb-true j (message_length el n.branch) (and_left (ltb j (message_length el n.branch)) (eqb (at (item_at el n.branch j) form_place) binding) h))
      (eqb-true (at (item_at el n.branch j) form_place) binding (and_right (ltb j (message_length el n.branch)) (eqb (at (item_at el n.branch j) form_place) binding) h))

  module _ (before : Fit u x.instance) where
    abbrev h : List ℕ
    h = received el x.instance m n.branch n.given

    fit_received : Fit u h
    unfolding received site_of
    fit_received =
        by_choice (Fit u) (eqb m.receives on) (bound el n.branch n.given x.instance) x.instance
        (λ e. fit_bound u el n.branch n.given (binds_right e) x.instance before)
        (λ e. before)

    pub fit_work : Fit u (work x).instance
    unfolding work worked site_of
    fit_work =
        by_choice (λ (y : Assigned). Fit u y.instance) (eqb m.assigns on) (assigned el h) (record { defined = true; instance = h })
        (λ e. fit_assigned u el (assigned_field el right_element) h fit_received)
        (λ e. fit_received)

    pub fit_taking : Fit u (after_taking x)
    unfolding after_taking site_of
    fit_taking = fit_taken u el m n.branch entries_right branch_entry (work x).instance fit_work

    pub fit_after : Fit u (instance_after x)
    unfolding instance_after moved site_of
    fit_after =
        by_choice (Fit u) (eqb m.also clearing) (cleared (after_taking x)) (puts el m n.branch (ready_changed el m (active_changed el m (after_taking x))))
        (λ e. fit_cleared u (after_taking x) fit_taking)
        (λ e.
        fit_puts u el m n.branch exits_right branch_exit (ready_changed el m (active_changed el m (after_taking x)))
        (fit_ready u el m n.branch ready_place_lem ready_right (active_changed el m (after_taking x))
        (fit_active u el m n.branch active_place_lem active_right (after_taking x) fit_taking)))
