-- The words of an element within its limits that its row does not use are 0. Assumes nothing.
use Prim.Native.Nat.{ℕ, ◌+◌, ◌≤◌, ◌<◌}
use mathlib.Core.Path.{◌≡◌, ◌∙◌, refl, sym, ap, subst}
use mathlib.Core.Bool.{true, not, ◌&&◌}
use mathlib.Core.List.{List}
use native.Mathlib.Decide.{ℕ_discrete}
use native.Mathlib.Omega.{arith}
use lib.Dec.{eqb, leb, ltb}
use lib.ListN.{drop}
use borrow.Author.Tests.{eqb-true, ne_eqb, eq-eqb, ltb-true, leb-true, not-true}
use Rattle.base_words.specs.Counts.{fewest, branches, assignments}
use Rattle.base_words.specs.Words.{at}
use Rattle.base_words.proofs.AllLaws.{and_left, and_right}
use Rattle.base_words.proofs.PickLaws.{pick_no}
use Rattle.base_kinds.specs.declared.Kind.{Kind}
use Rattle.base_kinds.specs.Kinds.{kind_of, used, one, many}
use Rattle.base_table.specs.Places.{task_place, mode_place, entries_place, exits_place, expression_words, condition_place, message_words, message_place, assignments_place, assignment_words, assignment_place, element_words}
use Rattle.base_table.specs.Table.{kind_in}
use Rattle.check_limits.specs.Limits.{task_fits, count_fits, edges_fit, condition_fits, message_fits, assignment_fits, parts_fit, element_fits}
use Rattle.check_limits.proofs.SameLaws.{count_most_lem}
use Rattle.proof_roundtrip.proofs.NumberReads.{then_of, else_of}
use Rattle.proof_roundtrip.proofs.FitsLaws.{things_none, edges_count, edges_none, task_fits_lem, entries_fit, exits_fit, conditions_fit_lem, messages_fit_lem, assignments_fit_lem, task_ranges}

-- an element has a kind, and the parts of its row
module _ (el : List ℕ) (h : element_fits el ≡ true) where
  pub fits_kind : not (eqb (kind_of (kind_in el)).letters 0) ≡ true
  unfolding element_fits
  fits_kind = and_left (not (eqb (kind_of (kind_in el)).letters 0)) (parts_fit (kind_of (kind_in el)) el) h

  pub fits_parts : parts_fit (kind_of (kind_in el)) el ≡ true
  unfolding element_fits
  fits_parts = and_right (not (eqb (kind_of (kind_in el)).letters 0)) (parts_fit (kind_of (kind_in el)) el) h

-- a list of edges: how many there are, and its words where there are none
module _ (el : List ℕ) (column list : ℕ) (h : edges_fit column (drop list el) ≡ true) where
  pub edges_most : column ≤ many → at el list ≤ branches
  edges_most c = count_most_lem column (at el list) c (edges_count el column list h)

  no_edges : eqb column 0 ≡ true → (i : ℕ) → list ≤ i → i < list + 9 → at el i ≡ 0
  no_edges e i l u = go (ℕ_discrete i list)
    where
      c : column ≡ 0
      c = eqb-true column 0 e

      none : at el list ≡ 0
      none = unfold count_fits in eqb-true (at el list) column (else_of (eqb column many) _ _ _ (edges_count el column list h) (ne_eqb column many (λ z. omega (arith, z, c)))) ∙ c

      go : Dec (i ≡ list) → at el i ≡ 0
      go (yes q) = ap (at el) q ∙ none
      go (no q) = edges_none el column list h i (omega (arith, l, q, none)) u

-- how many are in use, of what a cell says
pub used_few : (holds n : ℕ) → holds < many → used holds n ≡ holds
unfolding used
used_few holds n l = sym (pick_no (eqb holds many) _ _ _ (ne_eqb holds many (λ e. omega (arith, l, e))) refl)

-- WHAT AN ELEMENT'S ROW LEAVES OUT
module _ (r : Kind) (el : List ℕ) (f : parts_fit r el ≡ true) where
  module _ (e : not (eqb r.task one) ≡ true) where
    no_task : eqb (at el task_place) 0 && eqb (at el mode_place) 0 && eqb (at el assignments_place) 0 ≡ true
    no_task = unfold task_fits in else_of (eqb r.task one) _ _ _ (task_fits_lem r el f) (not-true (eqb r.task one) e)

    no_both : eqb (at el task_place) 0 && eqb (at el mode_place) 0 ≡ true
    no_both = and_left (eqb (at el task_place) 0 && eqb (at el mode_place) 0) (eqb (at el assignments_place) 0) no_task

    pub no_task_number : at el task_place ≡ 0
    no_task_number = eqb-true (at el task_place) 0 (and_left (eqb (at el task_place) 0) (eqb (at el mode_place) 0) no_both)

    pub no_mode : at el mode_place ≡ 0
    no_mode = eqb-true (at el mode_place) 0 (and_right (eqb (at el task_place) 0) (eqb (at el mode_place) 0) no_both)

    pub no_assignments : (i : ℕ) → assignments_place ≤ i → i < element_words → at el i ≡ 0
    no_assignments i l u = go (ℕ_discrete i assignments_place)
      where
        none : at el assignments_place ≡ 0
        none = eqb-true (at el assignments_place) 0 (and_right (eqb (at el task_place) 0 && eqb (at el mode_place) 0) (eqb (at el assignments_place) 0) no_task)

        go : Dec (i ≡ assignments_place) → at el i ≡ 0
        go (yes q) = ap (at el) q ∙ none
        go (no q) =
            things_none el (assignment_place 0) assignment_words assignments (at el assignments_place) assignment_fits (assignments_fit_lem r el f) i
            (omega (arith, l, q, none), omega (arith, u, none))

  pub no_entries : eqb r.entries 0 ≡ true → (i : ℕ) → entries_place ≤ i → i < exits_place → at el i ≡ 0
  no_entries = no_edges el r.entries entries_place (entries_fit r el f)

  pub no_exits : eqb r.exits 0 ≡ true → (i : ℕ) → exits_place ≤ i → i < condition_place 0 → at el i ≡ 0
  no_exits = no_edges el r.exits exits_place (exits_fit r el f)

  -- behind the first few conditions, and messages
  behind_conditions : r.conditions < many → (i : ℕ) → condition_place r.conditions ≤ i → i < message_place 0 → at el i ≡ 0
  behind_conditions few i l u =
      let e = used_few r.conditions (at el exits_place) few in
      things_none el (condition_place 0) expression_words branches (used r.conditions (at el exits_place)) (condition_fits r.conditions) (conditions_fit_lem r el f) i
      (omega (arith, l, e), omega (arith, u, e, few))

  pub no_condition : eqb r.conditions 0 ≡ true → (i : ℕ) → condition_place 0 ≤ i → i < message_place 0 → at el i ≡ 0
  no_condition e i l u =
      let z = eqb-true r.conditions 0 e in
      behind_conditions (omega (arith, z)) i (omega (arith, z, l)) u

  pub no_conditions : ltb r.conditions many ≡ true → (i : ℕ) → condition_place 1 ≤ i → i < message_place 0 → at el i ≡ 0
  no_conditions e i l u =
      let few = ltb-true r.conditions many e in
      behind_conditions few i (omega (arith, few, l)) u

  behind_messages : r.receives + r.sends < many → (i : ℕ) → message_place (r.receives + r.sends) ≤ i → i < assignments_place → at el i ≡ 0
  behind_messages few i l u =
      let e = used_few (r.receives + r.sends) (at el exits_place) few in
      things_none el (message_place 0) message_words branches (used (r.receives + r.sends) (at el exits_place)) (message_fits r.receives) (messages_fit_lem r el f) i
      (omega (arith, l, e), omega (arith, u, e, few))

  pub no_message : eqb (r.receives + r.sends) 0 ≡ true → (i : ℕ) → message_place 0 ≤ i → i < assignments_place → at el i ≡ 0
  no_message e i l u =
      let z = eqb-true (r.receives + r.sends) 0 e in
      behind_messages (omega (arith, z)) i (omega (arith, z, l)) u

  pub no_messages : ltb (r.receives + r.sends) many ≡ true → (i : ℕ) → message_place 1 ≤ i → i < assignments_place → at el i ≡ 0
  no_messages e i l u =
      let few = ltb-true (r.receives + r.sends) many e in
      behind_messages few i (omega (arith, few, l)) u
