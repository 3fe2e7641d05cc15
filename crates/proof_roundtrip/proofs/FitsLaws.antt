-- What an element's limits say of its words, place by place. Assumes nothing.
use Prim.Native.Nat.{ℕ, ◌+◌, ◌-◌, ◌*◌, ◌<◌, ◌≤◌}
use mathlib.Core.Path.{◌≡◌, ◌∙◌, refl, sym, ap, subst}
use mathlib.Core.Bool.{Bool, true, ◌&&◌}
use mathlib.Core.List.{List}
use native.Mathlib.Omega.{arith}
use lib.Dec.{eqb, leb, ltb}
use lib.ListN.{drop}
use lib.Seq.{get_or-drop, drop-drop}
use borrow.Author.Tests.{eq-eqb, ne_eqb, eqb-true, ltb-true, leb-true}
use Rattle.base_words.specs.All.{all}
use Rattle.base_words.specs.Counts.{fewest, branches, edges, names, values, fields_named, assignments, tasks}
use Rattle.base_words.specs.Words.{at}
use Rattle.base_words.proofs.AllLaws.{all_at, and_left, and_right}
use Rattle.base_words.proofs.PickLaws.{pick_yes, pick_no}
use Rattle.base_kinds.specs.declared.Kind.{Kind}
use Rattle.base_kinds.specs.Kinds.{one, many, used}
use Rattle.base_kinds.specs.Moves.{na_nc}
use Rattle.base_table.specs.Places.{first_edge, expression_words, length_in, items_in, message_words, assignment_words, entries_place, exits_place, edge_place, condition_place, message_place, assignments_place, assignment_place, task_place, mode_place}
use Rattle.check_limits.specs.Limits.{zeros, things, expression_fits, item_fits, condition_fits, message_fits, assignment_fits, count_fits, edge_fits, edges_fit, task_fits, conditions_fit, messages_fit, assignments_fit, parts_fit}
use Rattle.proof_roundtrip.proofs.NumberReads.{Span, then_of, else_of}
use Rattle.proof_roundtrip.proofs.ExpressionLaws.{zeros_at}

pub within_low : (a b n : ℕ) → leb a n && leb n b ≡ true → a ≤ n
within_low a b n e = leb-true a n (and_left (leb a n) (leb n b) e)

pub within_high : (a b n : ℕ) → leb a n && leb n b ≡ true → n ≤ b
within_high a b n e = leb-true n b (and_right (leb a n) (leb n b) e)

-- of n things from the place base on, k are right, and the others 0
module _ (el : List ℕ) (base w n k : ℕ) (right : List ℕ → Bool) (e : things (drop base el) w n k right ≡ true) where
  pub things_right : (j : ℕ) → j < k → right (drop (base + w * j) el) ≡ true
  things_right j l =
      ap right (sym (drop-drop (w * j) base el))
      ∙ all_at (λ j. right (drop (w * j) (drop base el))) k (and_left (all (λ j. right (drop (w * j) (drop base el))) k) (zeros (drop (w * k) (drop base el)) (w * (n - k))) (unfold things in e)) j l

  pub things_none : (i : ℕ) → Span (base + w * k) (w * (n - k)) i → at el i ≡ 0
  things_none i s =
      zeros_at el (base + w * k) (w * (n - k))
      (ap (λ (x : List ℕ). zeros x (w * (n - k))) (sym (drop-drop (w * k) base el)) ∙ and_right (all (λ j. right (drop (w * j) (drop base el))) k) (zeros (drop (w * k) (drop base el)) (w * (n - k))) (unfold things in e)) i s

-- ENTRIES OR EXITS, at the place list
module _ (el : List ℕ) (column list : ℕ) (e : edges_fit column (drop list el) ≡ true) where
  list_count : at (drop list el) 0 ≡ at el list
  list_count = get_or-drop list el 0 0 ∙ ap (at el) (let z : list + 0 ≡ list = omega arith in z)

  pub edges_count : count_fits column (at el list) ≡ true
  edges_count = ap (count_fits column) (sym list_count) ∙ and_left (count_fits column (at (drop list el) 0)) (things (drop first_edge (drop list el)) 1 branches (at (drop list el) 0) edge_fits) (unfold edges_fit in e)

  edges-things : things (drop (list + 1) el) 1 branches (at el list) edge_fits ≡ true
  edges-things =
      ap (λ (x : List ℕ). things x 1 branches (at el list) edge_fits) (sym (drop-drop first_edge list el))
      ∙ ap (λ (k : ℕ). things (drop first_edge (drop list el)) 1 branches k edge_fits) (sym list_count)
      ∙ and_right (count_fits column (at (drop list el) 0)) (things (drop first_edge (drop list el)) 1 branches (at (drop list el) 0) edge_fits) (unfold edges_fit in e)

  pub edge_range : (j : ℕ) → j < at el list → (1 ≤ at el (edge_place list j)) × (at el (edge_place list j) ≤ edges)
  edge_range j l =
      let z : at (drop (list + 1 + 1 * j) el) 0 ≡ at el (edge_place list j) = get_or-drop (list + 1 + 1 * j) el 0 0 ∙ ap (at el) (let q : list + 1 + 1 * j + 0 ≡ list + 1 + j = omega arith in q) in
      let f : leb 1 (at (drop (list + 1 + 1 * j) el) 0) && leb (at (drop (list + 1 + 1 * j) el) 0) edges ≡ true = (unfold edge_fits in things_right el (list + 1) 1 branches (at el list) edge_fits edges-things j l) in
      (omega (arith, z, within_low 1 edges (at (drop (list + 1 + 1 * j) el) 0) f), omega (arith, z, within_high 1 edges (at (drop (list + 1 + 1 * j) el) 0) f))

  pub edges_none : (i : ℕ) → list + 1 + at el list ≤ i → i < list + 9 → at el i ≡ 0
  edges_none i a b = things_none el (list + 1) 1 branches (at el list) edge_fits edges-things i (omega (arith, a), omega (arith, a, b))

-- a list of many, and a list of one
pub count_many : (n : ℕ) → count_fits many n ≡ true → (fewest ≤ n) × (n ≤ branches)
unfolding count_fits
count_many n e =
    let h = then_of _ _ _ _ e (eq-eqb many many refl) in
    (within_low fewest branches n h, within_high fewest branches n h)

pub count_one : (n : ℕ) → count_fits one n ≡ true → n ≡ 1
unfolding count_fits
count_one n e = eqb-true n one (else_of _ _ _ _ e (ne_eqb one many (λ z. omega (arith, z))))

-- A MESSAGE at the place p
module _ (el : List ℕ) (receives p : ℕ) (e : message_fits receives (drop p el) ≡ true) where
  message_zero : at (drop p el) 0 ≡ at el p
  message_zero = get_or-drop p el 0 0 ∙ ap (at el) (let z : p + 0 ≡ p = omega arith in z)

  abbrev Three : Bool
  Three = ltb (at (drop p el) 0) names && leb (at (drop p el) length_in) values && things (drop items_in (drop p el)) expression_words values (at (drop p el) length_in) (item_fits receives)

  message_three : Three ≡ true
  message_three = unfold message_fits in e

  message_two : ltb (at (drop p el) 0) names && leb (at (drop p el) length_in) values ≡ true
  message_two = and_left (ltb (at (drop p el) 0) names && leb (at (drop p el) length_in) values) (things (drop items_in (drop p el)) expression_words values (at (drop p el) length_in) (item_fits receives)) message_three

  pub message_name_lem : at el p < names
  message_name_lem = subst (λ (k : ℕ). k < names) message_zero (ltb-true (at (drop p el) 0) names (and_left (ltb (at (drop p el) 0) names) (leb (at (drop p el) length_in) values) message_two))

  pub message_length_lem : at el (p + length_in) ≤ values
  message_length_lem = subst (λ (k : ℕ). k ≤ values) (get_or-drop p el length_in 0) (leb-true (at (drop p el) length_in) values (and_right (ltb (at (drop p el) 0) names) (leb (at (drop p el) length_in) values) message_two))

  message_things : things (drop (p + items_in) el) expression_words values (at el (p + length_in)) (item_fits receives) ≡ true
  message_things =
      ap (λ (x : List ℕ). things x expression_words values (at el (p + length_in)) (item_fits receives)) (sym (drop-drop items_in p el))
      ∙ ap (λ (k : ℕ). things (drop items_in (drop p el)) expression_words values k (item_fits receives)) (sym (get_or-drop p el length_in 0))
      ∙ and_right (ltb (at (drop p el) 0) names && leb (at (drop p el) length_in) values) (things (drop items_in (drop p el)) expression_words values (at (drop p el) length_in) (item_fits receives)) message_three

  pub message_item : (j : ℕ) → j < at el (p + length_in) → item_fits receives (drop (p + items_in + expression_words * j) el) ≡ true
  message_item j l = things_right el (p + items_in) expression_words values (at el (p + length_in)) (item_fits receives) message_things j l

  pub message_none : (i : ℕ) → p + items_in + expression_words * at el (p + length_in) ≤ i → i < p + message_words → at el i ≡ 0
  message_none i a b = things_none el (p + items_in) expression_words values (at el (p + length_in)) (item_fits receives) message_things i (a, omega (arith, a, b))

-- AN ELEMENT, part by part
module _ (k : Kind) (el : List ℕ) (e : parts_fit k el ≡ true) where
  abbrev Task : Bool
  Task = task_fits k.task el

  abbrev Entries : Bool
  Entries = edges_fit k.entries (drop entries_place el)

  abbrev Exits : Bool
  Exits = edges_fit k.exits (drop exits_place el)

  abbrev Conditions : Bool
  Conditions = conditions_fit k.conditions el

  abbrev Messages : Bool
  Messages = messages_fit k.receives k.sends el

  all_parts : Task && Entries && Exits && Conditions && Messages && assignments_fit el ≡ true
  all_parts = unfold parts_fit in e

  five_parts : Task && Entries && Exits && Conditions && Messages ≡ true
  five_parts = and_left (Task && Entries && Exits && Conditions && Messages) (assignments_fit el) all_parts

  four_parts : Task && Entries && Exits && Conditions ≡ true
  four_parts = and_left (Task && Entries && Exits && Conditions) Messages five_parts

  three_parts : Task && Entries && Exits ≡ true
  three_parts = and_left (Task && Entries && Exits) Conditions four_parts

  two_parts : Task && Entries ≡ true
  two_parts = and_left (Task && Entries) Exits three_parts

  pub task_fits_lem : task_fits k.task el ≡ true
  task_fits_lem = and_left Task Entries two_parts

  pub entries_fit : edges_fit k.entries (drop entries_place el) ≡ true
  entries_fit = and_right Task Entries two_parts

  pub exits_fit : edges_fit k.exits (drop exits_place el) ≡ true
  exits_fit = and_right (Task && Entries) Exits three_parts

  pub conditions_fit_lem : things (drop (condition_place 0) el) expression_words branches (used k.conditions (at el exits_place)) (condition_fits k.conditions) ≡ true
  conditions_fit_lem = unfold conditions_fit in and_right (Task && Entries && Exits) Conditions four_parts

  pub messages_fit_lem : things (drop (message_place 0) el) message_words branches (used (k.receives + k.sends) (at el exits_place)) (message_fits k.receives) ≡ true
  messages_fit_lem = unfold messages_fit in and_right (Task && Entries && Exits && Conditions) Messages five_parts

  pub assignments_fit_lem : things (drop (assignment_place 0) el) assignment_words assignments (at el assignments_place) assignment_fits ≡ true
  assignments_fit_lem = unfold assignments_fit in and_right (Task && Entries && Exits && Conditions && Messages) (assignments_fit el) all_parts

-- how many there are
pub used-many : (n : ℕ) → used 2 n ≡ n
unfolding used
used-many n = sym (pick_yes (eqb 2 2) n n 2 refl refl)

pub used-one : (n : ℕ) → used 1 n ≡ 1
unfolding used
used-one n = sym (pick_no (eqb 1 2) 1 n 1 refl refl)

-- a task: its number, its mode, the count of its assignments
pub task_ranges : (el : List ℕ) → task_fits 1 el ≡ true → (1 ≤ at el task_place) × (at el task_place ≤ tasks) × (1 ≤ at el mode_place) × (at el mode_place ≤ na_nc) × (at el assignments_place ≤ assignments)
unfolding task_fits
task_ranges el e =
    let h = then_of _ _ _ _ e (eq-eqb 1 1 refl) in
    let a = and_left (leb 1 (at el task_place) && leb (at el task_place) tasks && (leb 1 (at el mode_place) && leb (at el mode_place) na_nc)) (leb (at el assignments_place) assignments) h in
    let t = and_left (leb 1 (at el task_place) && leb (at el task_place) tasks) (leb 1 (at el mode_place) && leb (at el mode_place) na_nc) a in
    let m = and_right (leb 1 (at el task_place) && leb (at el task_place) tasks) (leb 1 (at el mode_place) && leb (at el mode_place) na_nc) a in (
      within_low 1 tasks (at el task_place) t,
      within_high 1 tasks (at el task_place) t,
      within_low 1 na_nc (at el mode_place) m,
      within_high 1 na_nc (at el mode_place) m,
      leb-true (at el assignments_place) assignments (and_right (leb 1 (at el task_place) && leb (at el task_place) tasks && (leb 1 (at el mode_place) && leb (at el mode_place) na_nc)) (leb (at el assignments_place) assignments) h),
    )

-- an assignment at the place p
pub assignment_ranges : (el : List ℕ) (p : ℕ) → assignment_fits (drop p el) ≡ true → (at el p < fields_named) × (expression_fits (drop (p + 1) el) ≡ true)
unfolding assignment_fits
assignment_ranges el p e = (
  subst (λ (k : ℕ). k < fields_named) (get_or-drop p el 0 0 ∙ ap (at el) (let z : p + 0 ≡ p = omega arith in z)) (ltb-true (at (drop p el) 0) fields_named (and_left (ltb (at (drop p el) 0) fields_named) (expression_fits (drop 1 (drop p el))) e)),
  ap expression_fits (sym (drop-drop 1 p el)) ∙ and_right (ltb (at (drop p el) 0) fields_named) (expression_fits (drop 1 (drop p el))) e,
)
