-- What a table within the limits says of a pool and of an element. Assumes nothing.
use Prim.Native.Nat.{ℕ, ◌+◌, ◌-◌, ◌*◌, ◌≤◌, ◌<◌}
use mathlib.Core.Path.{◌≡◌, refl, sym, ◌∙◌, ap, subst}
use mathlib.Core.Bool.{Bool, true, false, not, ◌&&◌, false≢true}
use mathlib.Core.List.{List}
use native.Mathlib.Omega.{arith}
use lib.Dec.{eqb, leb, ltb}
use lib.ListN.{drop}
use lib.Seq.{get_or-drop, drop-drop}
use borrow.Author.Tests.{eqb-true, ltb-true, leb-true, eq-eqb}
use Rattle.base_words.specs.All.{all}
use Rattle.base_words.specs.Words.{at}
use Rattle.base_words.specs.Counts.{pools, elements, fewest, branches, pool_numbers, edges, tasks, names, instances, values, assignments, fields_named}
use Rattle.base_words.proofs.AllLaws.{and_left, and_right, all_at}
use Rattle.base_kinds.specs.declared.Kind.{Kind}
use Rattle.base_kinds.specs.Kinds.{none, one, many, kind_of, used, end_snd}
use Rattle.base_kinds.specs.Moves.{a, na_nc}
use Rattle.base_table.specs.Places.{a_field, operand_number, form_place, left_place, expression_words, binding, first_edge, entries_place, exits_place, edge_place, length_in, items_in, message_words, message_place, assignment_words, assignment_place, element_words, pool_words, pool_place, limit_place, element_place, item_place}
use Rattle.base_table.specs.Table.{pool_count, element_count, element_at, limit_of, kind_in, task_in, mode_in, entry_count, exit_count, entry_at, exit_at, message_name, message_length, item_at, assignment_count, assignment_at}
use Rattle.check_limits.specs.Limits.{within, zeros, things, expression_fits, bind_fits, item_fits, message_fits, assignment_fits, count_fits, edge_fits, edges_fit, task_fits, conditions_fit, messages_fit, assignments_fit, parts_fit, element_fits, held_fits, pool_fits, table_fits}
use Rattle.check_limits.proofs.SameLaws.{held_all}
use Rattle.proof_steps.proofs.Choices.{by_test, by_choice, chosen_true, passed_true}

-- a number within two others; a thing of a list of things
within_is : (low high n : ℕ) → within low high n ≡ true → (low ≤ n) × (n ≤ high)
within_is low high n h = (leb-true low n (and_left (leb low n) (leb n high) h), leb-true n high (and_right (leb low n) (leb n high) h))

things-at : (x : List ℕ) (w n k : ℕ) (right : List ℕ → Bool) → things x w n k right ≡ true → (j : ℕ) → j < k → right (drop (w * j) x) ≡ true
unfolding things
things-at x w n k right h j l = all_at (λ i. right (drop (w * i) x)) k (and_left (all (λ i. right (drop (w * i) x)) k) (zeros (drop (w * k) x) (w * (n - k))) h) j l

-- the things from a place on
things_from : (x : List ℕ) (a w n k : ℕ) (right : List ℕ → Bool) → things (drop a x) w n k right ≡ true → (j : ℕ) → j < k → right (drop (a + w * j) x) ≡ true
things_from x a w n k right h j l = subst (λ y. right y ≡ true) (drop-drop (w * j) a x) (things-at (drop a x) w n k right h j l)

-- a count that fits its column is what is in use
pub count_used : (column n : ℕ) → count_fits column n ≡ true → used column n ≡ n
unfolding count_fits used
count_used column n h =
    by_choice (λ (m : ℕ). m ≡ n) (eqb column many) n column (λ e. refl)
    (λ e. sym (eqb-true n column (passed_true (eqb column many) (within fewest branches n) (eqb n column) h e)))

-- A LIST OF EDGES
module _ (column : ℕ) (x : List ℕ) (fits : edges_fit column x ≡ true) where
  edges-used : used column (at x 0) ≡ at x 0
  unfolding edges_fit
  edges-used = count_used column (at x 0) (and_left (count_fits column (at x 0)) _ fits)

  edges-within : (j : ℕ) → j < at x 0 → (1 ≤ at x (first_edge + j)) × (at x (first_edge + j) ≤ edges)
  unfolding edges_fit edge_fits
  edges-within j l =
      let c = things_from x first_edge 1 branches (at x 0) edge_fits (and_right (count_fits column (at x 0)) _ fits) j l in
      let e : first_edge + 1 * j + 0 ≡ first_edge + j = omega arith in
      let b = within_is 1 edges (at (drop (first_edge + 1 * j) x) 0) c in
      let d : at (drop (first_edge + 1 * j) x) 0 ≡ at x (first_edge + j) = get_or-drop (first_edge + 1 * j) x 0 0 ∙ ap (at x) e in
      (omega (arith, b.0, d), omega (arith, b.1, d))

-- AN ELEMENT by its row: each part fits
abbrev pub row_of : List ℕ → Kind
row_of el = kind_of (kind_in el)

pub record FittingParts (el : List ℕ) : Type 0 where
  pub task : task_fits (row_of el).task el ≡ true
  pub entries : edges_fit (row_of el).entries (drop entries_place el) ≡ true
  pub exits : edges_fit (row_of el).exits (drop exits_place el) ≡ true
  pub messages : messages_fit (row_of el).receives (row_of el).sends el ≡ true
  pub assignments : assignments_fit el ≡ true

pub fitting_parts : (el : List ℕ) → element_fits el ≡ true → FittingParts el
unfolding element_fits parts_fit
fitting_parts el fits =
    let row : Kind = row_of el in
    let task : Bool = task_fits row.task el in
    let entries : Bool = edges_fit row.entries (drop entries_place el) in
    let exits : Bool = edges_fit row.exits (drop exits_place el) in
    let conditions : Bool = conditions_fit row.conditions el in
    let messages : Bool = messages_fit row.receives row.sends el in
    let all-six : task && entries && exits && conditions && messages && assignments_fit el ≡ true = and_right (not (eqb row.letters 0)) _ fits in
    let five : task && entries && exits && conditions && messages ≡ true = and_left _ _ all-six in
    let three : task && entries && exits ≡ true = and_left (task && entries && exits) conditions (and_left (task && entries && exits && conditions) messages five) in
    let two : task && entries ≡ true = and_left (task && entries) exits three in
    record {
      task = and_left task entries two;
      entries = and_right task entries two;
      exits = and_right (task && entries) exits three;
      messages = and_right (task && entries && exits && conditions) messages five;
      assignments = and_right (task && entries && exits && conditions && messages) (assignments_fit el) all-six;
    }

module _ (el : List ℕ) (fits : element_fits el ≡ true) where
  abbrev row : Kind
  row = row_of el

  parts : FittingParts el
  parts = fitting_parts el fits

  -- its task number
  pub task_few : task_in el ≤ tasks
  unfolding task_fits
  task_few =
      let h = parts.task in
      by_test (eqb row.task one)
      (λ e. (within_is 1 tasks (task_in el)
      (and_left (within 1 tasks (task_in el)) (within a na_nc (mode_in el)) (and_left (within 1 tasks (task_in el) && within a na_nc (mode_in el)) _ (chosen_true _ _ _ h e)))
      ).1)
      (λ e.
      let z = eqb-true (task_in el) 0 (and_left (eqb (task_in el) 0) (eqb (mode_in el) 0) (and_left (eqb (task_in el) 0 && eqb (mode_in el) 0) _ (passed_true _ _ _ h e))) in
      omega (arith, z))

  -- its entries and its exits
  pub entry_within : (j : ℕ) → j < entry_count el → (1 ≤ entry_at el j) × (entry_at el j ≤ edges)
  unfolding entry_count
  entry_within j l =
      let h = parts.entries in
      let c : at (drop entries_place el) 0 ≡ at el entries_place = get_or-drop entries_place el 0 0 in
      let u = edges-used row.entries (drop entries_place el) h in
      let v : entry_count el ≡ at (drop entries_place el) 0 = ap (used row.entries) (sym c) ∙ u in
      let b = edges-within row.entries (drop entries_place el) h j (omega (arith, v)) in
      let e : entries_place + (first_edge + j) ≡ edge_place entries_place j = omega arith in
      let d : at (drop entries_place el) (first_edge + j) ≡ entry_at el j = get_or-drop entries_place el (first_edge + j) 0 ∙ ap (at el) e in
      (omega (arith, b.0, d), omega (arith, b.1, d))

  pub exit_within : (j : ℕ) → j < exit_count el → (1 ≤ exit_at el j) × (exit_at el j ≤ edges)
  unfolding exit_count
  exit_within j l =
      let h = parts.exits in
      let c : at (drop exits_place el) 0 ≡ at el exits_place = get_or-drop exits_place el 0 0 in
      let u = edges-used row.exits (drop exits_place el) h in
      let v : exit_count el ≡ at (drop exits_place el) 0 = ap (used row.exits) (sym c) ∙ u in
      let b = edges-within row.exits (drop exits_place el) h j (omega (arith, v)) in
      let e : exits_place + (first_edge + j) ≡ edge_place exits_place j = omega arith in
      let d : at (drop exits_place el) (first_edge + j) ≡ exit_at el j = get_or-drop exits_place el (first_edge + j) 0 ∙ ap (at el) e in
      (omega (arith, b.0, d), omega (arith, b.1, d))

  -- the field of an assignment
  pub assigned_field : (j : ℕ) → j < assignment_count el → at (assignment_at el j) 0 < fields_named
  unfolding assignments_fit assignment_fits
  assigned_field j l =
      let h = parts.assignments in
      let b = things_from el (assignment_place 0) assignment_words assignments (assignment_count el) assignment_fits h j l in
      let e : assignment_place 0 + assignment_words * j ≡ assignment_place j = omega arith in
      let c : at (drop (assignment_place 0 + assignment_words * j) el) 0 < fields_named = ltb-true _ fields_named (and_left (ltb (at (drop (assignment_place 0 + assignment_words * j) el) 0) fields_named) _ b) in
      subst (λ k. at (drop k el) 0 < fields_named) e c

  -- a message: its name, its length, the field that an item binds
  module _ (b : ℕ) (l : b < used (row.receives + row.sends) (at el exits_place)) where
    message_fits_lem : message_fits row.receives (drop (message_place b) el) ≡ true
    unfolding messages_fit
    message_fits_lem =
        let h = parts.messages in
        let e : message_place 0 + message_words * b ≡ message_place b = omega arith in
        subst (λ k. message_fits row.receives (drop k el) ≡ true) e
        (things_from el (message_place 0) message_words branches (used (row.receives + row.sends) (at el exits_place)) (message_fits row.receives) h b l)

    abbrev x : List ℕ
    x = drop (message_place b) el

    abbrev name_part : Bool
    name_part = ltb (at x 0) names

    abbrev length_part : Bool
    length_part = leb (at x length_in) values

    abbrev items_part : Bool
    items_part = things (drop items_in x) expression_words values (at x length_in) (item_fits row.receives)

    pub message_name_lem : message_name el b < names
    unfolding message_fits
    message_name_lem =
        let h = ltb-true (at x 0) names (and_left name_part length_part (and_left (name_part && length_part) items_part message_fits_lem)) in
        let d : at x 0 ≡ at el (message_place b) = get_or-drop (message_place b) el 0 0 ∙ ap (at el) (omega arith) in
        omega (arith, h, d)

    length_is : at x length_in ≡ message_length el b
    length_is = get_or-drop (message_place b) el length_in 0

    pub message_length_lem : message_length el b ≤ values
    unfolding message_fits
    message_length_lem =
        let h = leb-true (at x length_in) values (and_right name_part length_part (and_left (name_part && length_part) items_part message_fits_lem)) in
        omega (arith, h, length_is)

    item_fits_lem : (j : ℕ) → j < message_length el b → item_fits row.receives (item_at el b j) ≡ true
    unfolding message_fits
    item_fits_lem j r =
        let h = things_from x items_in expression_words values (at x length_in) (item_fits row.receives) (and_right (name_part && length_part) items_part message_fits_lem) j (omega (arith, length_is)) in
        let e : message_place b + (items_in + expression_words * j) ≡ item_place b j = omega arith in
        subst (λ y. item_fits row.receives y ≡ true) (drop-drop (items_in + expression_words * j) (message_place b) el ∙ ap (λ k. drop k el) e) h

    pub bound_field : (j : ℕ) → j < message_length el b → at (item_at el b j) form_place ≡ binding → at (item_at el b j) (left_place + operand_number) < fields_named
    unfolding item_fits bind_fits
    bound_field j r e =
        let i : List ℕ = item_at el b j in
        let h = chosen_true (eqb (at i form_place) binding) _ (expression_fits i) (item_fits_lem j r) (eq-eqb (at i form_place) binding e) in
        let g : bind_fits i ≡ true = by_test (eqb row.receives none)
        (λ y. absurd (false≢true (chosen_true (eqb row.receives none) false (bind_fits i) h y)))
        (λ y. passed_true (eqb row.receives none) false (bind_fits i) h y) in
        ltb-true (at i (left_place + operand_number)) fields_named
        (and_right (eqb (at i left_place) a_field) (ltb (at i (left_place + operand_number)) fields_named)
        (and_left (eqb (at i left_place) a_field && ltb (at i (left_place + operand_number)) fields_named) _ g))

-- A POOL AND ITS ELEMENTS
module _ (t : List ℕ) (fits : table_fits t ≡ true) where
  abbrev count_part : Bool
  count_part = within 1 pools (pool_count t)

  abbrev pools_part : Bool
  pools_part = all (pool_fits t) (pool_count t)

  abbrev rest_part : Bool
  rest_part = zeros (drop (pool_place (pool_count t)) t) (pool_words * (pools - pool_count t))

  pub pools_few : pool_count t ≤ pools
  unfolding table_fits
  pools_few = (within_is 1 pools (pool_count t) (and_left count_part pools_part (and_left (count_part && pools_part) rest_part fits))).1

  module _ (p : ℕ) (there : p < pool_count t) where
    pool_fits_lem : pool_fits t p ≡ true
    unfolding table_fits
    pool_fits_lem = all_at (pool_fits t) (pool_count t) (and_right count_part pools_part (and_left (count_part && pools_part) rest_part fits)) p there

    abbrev number_part : Bool
    number_part = within 1 pool_numbers (at t (pool_place p))

    abbrev limit_part : Bool
    limit_part = leb (at t (limit_place p)) instances

    abbrev element_part : Bool
    element_part = within 1 elements (element_count t p)

    abbrev filled_part : Bool
    filled_part = things (element_at t p 0) element_words elements (element_count t p) held_fits

    pub limit_few : limit_of t p ≤ instances
    unfolding pool_fits limit_of
    limit_few =
        let h = leb-true (at t (limit_place p)) instances
        (and_right number_part limit_part (and_left (number_part && limit_part) element_part (and_left (number_part && limit_part && element_part) filled_part pool_fits_lem))) in
        by_choice (λ n. n ≤ instances) (eqb (at t (limit_place p)) 0) 1 (at t (limit_place p)) (λ e. omega arith) (λ e. h)

    pub elements_few : element_count t p ≤ elements
    unfolding pool_fits
    elements_few =
        (within_is 1 elements (element_count t p)
        (and_right (number_part && limit_part) element_part (and_left (number_part && limit_part && element_part) filled_part pool_fits_lem))).1

    pub element_fits_lem : (e : ℕ) → e < element_count t p → element_fits (element_at t p e) ≡ true
    unfolding pool_fits
    element_fits_lem e l =
        let h = things_from t (element_place p 0) element_words elements (element_count t p) element_fits (held_all (element_at t p 0) element_words elements (element_count t p) (and_right (number_part && limit_part && element_part) filled_part pool_fits_lem)) e l in
        let k : element_place p 0 + element_words * e ≡ element_place p e = omega arith in
        subst (λ y. element_fits (drop y t) ≡ true) k h

    -- an element of a table is no endSnd, so that the row of the table of moves for it, and the paper's rule, are of no table within the limits
    pub no_end_snd : (e : ℕ) → e < element_count t p → kind_in (element_at t p e) ≡ end_snd → ⊥
    unfolding pool_fits held_fits
    no_end_snd e l is =
        let h = things_from t (element_place p 0) element_words elements (element_count t p) held_fits (and_right (number_part && limit_part && element_part) filled_part pool_fits_lem) e l in
        let k : element_place p 0 + element_words * e ≡ element_place p e = omega arith in
        let n : not (eqb (kind_in (element_at t p e)) end_snd) ≡ true = and_right (element_fits (element_at t p e)) _ (subst (λ y. held_fits (drop y t) ≡ true) k h) in
        false≢true (sym (ap not (eq-eqb (kind_in (element_at t p e)) end_snd is)) ∙ n)
