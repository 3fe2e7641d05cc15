-- How many items, assignments, entries and exits an element within the limits has. Assumes nothing.
use Prim.Native.Nat.{ℕ, ◌+◌, ◌-◌, ◌*◌, ◌≤◌, ◌<◌}
use mathlib.Core.Path.{◌≡◌, refl, sym, ◌∙◌, ap, subst}
use mathlib.Core.Bool.{Bool, true, not, ◌&&◌}
use mathlib.Core.List.{List}
use native.Mathlib.Omega.{arith}
use lib.Dec.{eqb, leb, ltb}
use lib.ListN.{drop}
use lib.Seq.{get_or-drop, drop-drop}
use borrow.Author.Tests.{eqb-true, eq-eqb, leb-true}
use Rattle.base_words.specs.All.{all}
use Rattle.base_words.specs.Each.{each}
use Rattle.base_words.specs.Words.{at}
use Rattle.base_words.specs.Counts.{fewest, branches, tasks, names, values, assignments}
use Rattle.base_words.proofs.AllLaws.{and_left, and_right, all_at}
use Rattle.base_words.proofs.ListLaws.{each_at}
use Rattle.base_kinds.specs.declared.Kind.{Kind}
use Rattle.base_kinds.specs.Kinds.{one, many, no_kind, kinds, kind_of, used}
use Rattle.base_kinds.specs.Moves.{a, na_nc}
use Rattle.base_table.specs.Places.{entries_place, exits_place, first_edge, length_in, items_in, expression_words, condition_place, message_words, message_place, item_place, assignment_words, assignment_place}
use Rattle.base_table.specs.Table.{kind_in, task_in, mode_in, entry_count, exit_count, condition_at, message_length, item_at, assignment_count, assignment_at}
use Rattle.check_limits.specs.Limits.{within, zeros, things, item_fits, condition_fits, message_fits, assignment_fits, count_fits, edge_fits, edges_fit, task_fits, conditions_fit, messages_fit, assignments_fit, parts_fit, element_fits}
use Rattle.proof_steps.proofs.Choices.{by_test, chosen_true, passed_true}
use Rattle.proof_steps.proofs.Elements.{row_of, count_used, FittingParts, fitting_parts}

-- a fact of every row of the table of kinds
pub every_kind : (f : Kind → Bool) → each f kinds ≡ true → f no_kind ≡ true → (k : ℕ) → f (kind_of k) ≡ true
unfolding kind_of
every_kind f e o k = each_at f kinds no_kind e o k

kind_few : (k : ℕ) → ((kind_of k).entries ≤ branches) × ((kind_of k).exits ≤ branches)
unfolding each
kind_few k =
    (leb-true _ branches (every_kind (λ r. leb r.entries branches) refl refl k), leb-true _ branches (every_kind (λ r. leb r.exits branches) refl refl k))

-- a list of edges: what its column says, at most 8
count_few : (column n : ℕ) → column ≤ branches → count_fits column n ≡ true → n ≤ branches
unfolding count_fits
count_few column n l h =
    by_test (eqb column many)
    (λ e. leb-true n branches (and_right (leb fewest n) (leb n branches) (chosen_true (eqb column many) (within fewest branches n) (eqb n column) h e)))
    (λ e. omega (arith, l, eqb-true n column (passed_true (eqb column many) (within fewest branches n) (eqb n column) h e)))

edges_count : (column place : ℕ) (el : List ℕ) → edges_fit column (drop place el) ≡ true → count_fits column (at el (place + 0)) ≡ true
unfolding edges_fit
edges_count column place el h =
    ap (count_fits column) (sym (get_or-drop place el 0 0)) ∙ and_left (count_fits column (at (drop place el) 0)) (things (drop first_edge (drop place el)) 1 branches (at (drop place el) 0) edge_fits) h

-- a thing of those that are in use, from a place on
things_from : (x : List ℕ) (a w n k : ℕ) (right : List ℕ → Bool) → things (drop a x) w n k right ≡ true → (j : ℕ) → j < k → right (drop (a + w * j) x) ≡ true
unfolding things
things_from x a w n k right h j l =
    subst (λ y. right y ≡ true) (drop-drop (w * j) a x)
    (all_at (λ i. right (drop (w * i) (drop a x))) k (and_left (all (λ i. right (drop (w * i) (drop a x))) k) (zeros (drop (w * k) (drop a x)) (w * (n - k))) h) j l)

-- AN ELEMENT
module _ (el : List ℕ) (fits : element_fits el ≡ true) where
  parts : FittingParts el
  parts = fitting_parts el fits

  -- the entries as its kind has them
  pub entries_fit : count_fits (row_of el).entries (at el entries_place) ≡ true
  entries_fit = edges_count (row_of el).entries entries_place el parts.entries

  pub entries_few : at el entries_place ≤ branches
  entries_few = count_few (row_of el).entries (at el entries_place) (kind_few (kind_in el)).0 entries_fit

  pub entries_all : entry_count el ≡ at el entries_place
  unfolding entry_count
  entries_all = count_used (row_of el).entries (at el entries_place) entries_fit

  -- the exits as its kind has them
  pub exits_fit : count_fits (row_of el).exits (at el exits_place) ≡ true
  exits_fit = edges_count (row_of el).exits exits_place el parts.exits

  pub exits_few : at el exits_place ≤ branches
  exits_few = count_few (row_of el).exits (at el exits_place) (kind_few (kind_in el)).1 exits_fit

  pub exits_all : exit_count el ≡ at el exits_place
  unfolding exit_count
  exits_all = count_used (row_of el).exits (at el exits_place) exits_fit

  pub assignments_few : assignment_count el ≤ assignments
  unfolding task_fits
  assignments_few =
      let h = parts.task in
      let ranged : Bool = within 1 tasks (task_in el) && within a na_nc (mode_in el) in
      let bare : Bool = eqb (task_in el) 0 && eqb (mode_in el) 0 in
      let some : Bool = ranged && leb (assignment_count el) assignments in
      let nothing : Bool = bare && eqb (assignment_count el) 0 in
      by_test (eqb (row_of el).task one)
      (λ e. leb-true (assignment_count el) assignments (and_right ranged (leb (assignment_count el) assignments) (chosen_true (eqb (row_of el).task one) some nothing h e)))
      (λ e. omega (arith, eqb-true (assignment_count el) 0 (and_right bare (eqb (assignment_count el) 0) (passed_true (eqb (row_of el).task one) some nothing h e))))

  -- its conditions, the items of its messages and its assignments
  pub condition_fits_lem : (b : ℕ) → b < used (row_of el).conditions (at el exits_place) → condition_fits (row_of el).conditions (condition_at el b) ≡ true
  unfolding element_fits parts_fit conditions_fit
  condition_fits_lem b l =
      let three : Bool = task_fits (row_of el).task el && edges_fit (row_of el).entries (drop entries_place el) && edges_fit (row_of el).exits (drop exits_place el) in
      let conditions : Bool = conditions_fit (row_of el).conditions el in
      let messages : Bool = messages_fit (row_of el).receives (row_of el).sends el in
      let six : three && conditions && messages && assignments_fit el ≡ true = and_right (not (eqb (row_of el).letters 0)) _ fits in
      let h : conditions ≡ true = and_right three conditions (and_left (three && conditions) messages (and_left (three && conditions && messages) (assignments_fit el) six)) in
      let e : condition_place 0 + expression_words * b ≡ condition_place b = omega arith in
      subst (λ k. condition_fits (row_of el).conditions (drop k el) ≡ true) e
      (things_from el (condition_place 0) expression_words branches (used (row_of el).conditions (at el exits_place)) (condition_fits (row_of el).conditions) h b l)

  pub item_fits_lem : (b : ℕ) → b < used ((row_of el).receives + (row_of el).sends) (at el exits_place) → (j : ℕ) → j < message_length el b → item_fits (row_of el).receives (item_at el b j) ≡ true
  unfolding messages_fit message_fits
  item_fits_lem b l j r =
      let x : List ℕ = drop (message_place b) el in
      let e : message_place 0 + message_words * b ≡ message_place b = omega arith in
      let named : Bool = ltb (at x 0) names && leb (at x length_in) values in
      let m : message_fits (row_of el).receives x ≡ true = subst (λ k. message_fits (row_of el).receives (drop k el) ≡ true) e
      (things_from el (message_place 0) message_words branches (used ((row_of el).receives + (row_of el).sends) (at el exits_place)) (message_fits (row_of el).receives) parts.messages b l) in
      let long : at x length_in ≡ message_length el b = get_or-drop (message_place b) el length_in 0 in
      let h = things_from x items_in expression_words values (at x length_in) (item_fits (row_of el).receives) (and_right named _ m) j (omega (arith, long)) in
      let f : message_place b + (items_in + expression_words * j) ≡ item_place b j = omega arith in
      subst (λ y. item_fits (row_of el).receives y ≡ true) (drop-drop (items_in + expression_words * j) (message_place b) el ∙ ap (λ k. drop k el) f) h

  pub assignment_fits_lem : (j : ℕ) → j < assignment_count el → assignment_fits (assignment_at el j) ≡ true
  unfolding assignments_fit
  assignment_fits_lem j l =
      let e : assignment_place 0 + assignment_words * j ≡ assignment_place j = omega arith in
      subst (λ k. assignment_fits (drop k el) ≡ true) e
      (things_from el (assignment_place 0) assignment_words assignments (assignment_count el) assignment_fits parts.assignments j l)

  -- a task has a number
  pub task_some : (row_of el).task ≡ one → 1 ≤ task_in el
  unfolding task_fits
  task_some e =
      let ranged : Bool = within 1 tasks (task_in el) in
      let moded : Bool = within a na_nc (mode_in el) in
      let some : Bool = ranged && moded && leb (assignment_count el) assignments in
      let h : some ≡ true = chosen_true (eqb (row_of el).task one) some _ parts.task (eq-eqb (row_of el).task one e) in
      leb-true 1 (task_in el) (and_left (leb 1 (task_in el)) (leb (task_in el) tasks) (and_left ranged moded (and_left (ranged && moded) (leb (assignment_count el) assignments) h)))
