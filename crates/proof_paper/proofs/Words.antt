-- What the limits say of the words of an element: its task, its conditions, the items of its messages, its assignments. Assumes nothing.
use Prim.Native.Nat.{ℕ, zero, suc, ◌+◌, ◌-◌, ◌*◌, ◌<◌, ◌≤◌}
use mathlib.Core.Path.{◌≡◌, refl, sym, ◌∙◌, ap, subst}
use mathlib.Core.Bool.{Bool, true, false, not, ◌&&◌, false≢true}
use mathlib.Core.List.{List, [], ◌∷◌}
use native.Mathlib.Omega.{arith}
use lib.Dec.{eqb, leb, ltb}
use lib.ListN.{drop, get_or}
use lib.Seq.{get_or-drop, drop-drop}
use borrow.Author.Tests.{eqb-true, eqb-false, eq-eqb, ne_eqb, leb-true}
use Rattle.base_words.specs.All.{all}
use Rattle.base_words.specs.Words.{at}
use Rattle.base_words.specs.Counts.{branches, tasks, names, fields_named, values, assignments}
use Rattle.base_words.proofs.AllLaws.{and_left, and_right, all_at}
use Rattle.base_kinds.specs.declared.Kind.{Kind}
use Rattle.base_kinds.specs.Kinds.{none, one, many, kind_of, used}
use Rattle.base_kinds.specs.Moves.{mode_of}
use Rattle.base_kinds.specs.Moves as Row
use Rattle.base_table.specs.Places.{operand_words, form_place, left_place, expression_words, binding, entries_place, exits_place, condition_place, length_in, items_in, message_words, message_place, item_place, assigned_in, assignment_words, assignment_place}
use Rattle.base_table.specs.Places as Places
use Rattle.base_table.specs.Table.{kind_in, task_in, mode_in, condition_at, message_length, item_at, assignment_count, assignment_at}
use Rattle.check_limits.specs.Limits.{within, zeros, things, expression_fits, item_fits, condition_fits, message_fits, assignment_fits, edges_fit, task_fits, conditions_fit, messages_fit, assignments_fit, parts_fit, element_fits}
use Rattle.proof_steps.proofs.Choices.{by_test, chosen, passed, chosen_true, passed_true}
use Rattle.proof_steps.proofs.Elements.{FittingParts, fitting_parts}
use Rattle.paper.specs.Syntax.{Mode, a, na_c, na_nc, default}
use Rattle.proof_paper.specs.Decoders.{mode_at, cond_at}
use Rattle.proof_paper.proofs.Stores.{inside}
use Rattle.proof_paper.proofs.Values.{default_is}

-- the things from a place on
things_from : (x : List ℕ) (from w n k : ℕ) (right : List ℕ → Bool) → things (drop from x) w n k right ≡ true → (j : ℕ) → j < k → right (drop (from + w * j) x) ≡ true
unfolding things
things_from x from w n k right h j l =
    subst (λ y. right y ≡ true) (drop-drop (w * j) from x)
    (all_at (λ i. right (drop (w * i) (drop from x))) k (and_left (all (λ i. right (drop (w * i) (drop from x))) k) (zeros (drop (w * k) (drop from x)) (w * (n - k))) h) j l)

module _ (el : List ℕ) (fits : element_fits el ≡ true) where
  abbrev kind : Kind
  kind = kind_of (kind_in el)

  abbrev tasked : Bool
  tasked = task_fits kind.task el

  abbrev entered : Bool
  entered = edges_fit kind.entries (drop entries_place el)

  abbrev left : Bool
  left = edges_fit kind.exits (drop exits_place el)

  abbrev asked : Bool
  asked = conditions_fit kind.conditions el

  abbrev told : Bool
  told = messages_fit kind.receives kind.sends el

  abbrev parts : FittingParts el
  parts = fitting_parts el fits

  conditions_fit_lem : asked ≡ true
  unfolding element_fits parts_fit
  conditions_fit_lem =
      and_right (tasked && entered && left) asked
      (and_left (tasked && entered && left && asked) told
      (and_left (tasked && entered && left && asked && told) (assignments_fit el) (and_right (not (eqb kind.letters 0)) (parts_fit kind el) fits)))

  -- A TASK: its number and mode; the count of assignments, of any element
  task_right : kind.task ≡ one → within 1 tasks (task_in el) && within Row.a Row.na_nc (mode_in el) && leb (assignment_count el) assignments ≡ true
  unfolding task_fits
  task_right e = chosen_true (eqb kind.task one) _ _ parts.task (eq-eqb kind.task one e)

  pub task_there : kind.task ≡ one → 1 ≤ task_in el
  task_there e =
      (inside 1 tasks (task_in el)
      (and_left (within 1 tasks (task_in el)) (within Row.a Row.na_nc (mode_in el)) (and_left (within 1 tasks (task_in el) && within Row.a Row.na_nc (mode_in el)) (leb (assignment_count el) assignments) (task_right e)))).0

  pub mode_few : mode_in el ≤ Row.na_nc
  unfolding task_fits
  mode_few =
      by_test (eqb kind.task one)
      (λ e. (inside Row.a Row.na_nc (mode_in el)
      (and_right (within 1 tasks (task_in el)) (within Row.a Row.na_nc (mode_in el)) (and_left (within 1 tasks (task_in el) && within Row.a Row.na_nc (mode_in el)) (leb (assignment_count el) assignments) (task_right (eqb-true kind.task one e))))).1)
      (λ e.
      let z = eqb-true (mode_in el) 0 (and_right (eqb (task_in el) 0) (eqb (mode_in el) 0) (and_left (eqb (task_in el) 0 && eqb (mode_in el) 0) (eqb (assignment_count el) 0) (passed_true (eqb kind.task one) _ _ parts.task e))) in
      omega (arith, z))

  pub mode_none : kind.task ≡ 0 → mode_in el ≡ 0
  unfolding task_fits
  mode_none e =
      eqb-true (mode_in el) 0
      (and_right (eqb (task_in el) 0) (eqb (mode_in el) 0)
      (and_left (eqb (task_in el) 0 && eqb (mode_in el) 0) (eqb (assignment_count el) 0) (passed_true (eqb kind.task one) _ _ parts.task (ne_eqb kind.task one (λ z. omega arith)))))

  pub mode_some : kind.task ≡ one → mode_in el ≡ 0 → ⊥
  mode_some e z =
      let w = inside Row.a Row.na_nc (mode_in el)
      (and_right (within 1 tasks (task_in el)) (within Row.a Row.na_nc (mode_in el)) (and_left (within 1 tasks (task_in el) && within Row.a Row.na_nc (mode_in el)) (leb (assignment_count el) assignments) (task_right e))) in
      omega (arith, w.0)

  pub assignments_few : assignment_count el ≤ assignments
  unfolding task_fits
  assignments_few =
      by_test (eqb kind.task one)
      (λ e. leb-true (assignment_count el) assignments (and_right (within 1 tasks (task_in el) && within Row.a Row.na_nc (mode_in el)) (leb (assignment_count el) assignments) (task_right (eqb-true kind.task one e))))
      (λ e.
      let z = eqb-true (assignment_count el) 0 (and_right (eqb (task_in el) 0 && eqb (mode_in el) 0) (eqb (assignment_count el) 0) (passed_true (eqb kind.task one) _ _ parts.task e)) in
      omega (arith, z))

  pub assignment_fits_lem : (j : ℕ) → j < assignment_count el → expression_fits (drop assigned_in (assignment_at el j)) ≡ true
  unfolding assignments_fit assignment_fits
  assignment_fits_lem j l =
      let h = parts.assignments in
      let e : assignment_place 0 + assignment_words * j ≡ assignment_place j = omega arith in
      let r : assignment_fits (assignment_at el j) ≡ true = subst (λ k. assignment_fits (drop k el) ≡ true) e (things_from el (assignment_place 0) assignment_words assignments (assignment_count el) assignment_fits h j l) in
      and_right (ltb (at (assignment_at el j) 0) fields_named) (expression_fits (drop assigned_in (assignment_at el j))) r

  -- A CONDITION
  pub condition_fits_lem : (b : ℕ) → b < used kind.conditions (at el exits_place) → condition_fits kind.conditions (condition_at el b) ≡ true
  unfolding conditions_fit
  condition_fits_lem b l =
      let e : condition_place 0 + expression_words * b ≡ condition_place b = omega arith in
      subst (λ k. condition_fits kind.conditions (drop k el) ≡ true) e
      (things_from el (condition_place 0) expression_words branches (used kind.conditions (at el exits_place)) (condition_fits kind.conditions) conditions_fit_lem b l)

  -- AN ITEM of a message
  module _ (b : ℕ) (there : b < used (kind.receives + kind.sends) (at el exits_place)) where
    abbrev x : List ℕ
    x = drop (message_place b) el

    message_right : message_fits kind.receives x ≡ true
    unfolding messages_fit
    message_right =
        let e : message_place 0 + message_words * b ≡ message_place b = omega arith in
        subst (λ k. message_fits kind.receives (drop k el) ≡ true) e
        (things_from el (message_place 0) message_words branches (used (kind.receives + kind.sends) (at el exits_place)) (message_fits kind.receives) parts.messages b there)

    pub item_fits_lem : (j : ℕ) → j < message_length el b → item_fits kind.receives (item_at el b j) ≡ true
    unfolding message_fits
    item_fits_lem j r =
        let n : at x length_in ≡ message_length el b = get_or-drop (message_place b) el length_in 0 in
        let h = things_from x items_in expression_words values (at x length_in) (item_fits kind.receives) (and_right (ltb (at x 0) names && leb (at x length_in) values) (things (drop items_in x) expression_words values (at x length_in) (item_fits kind.receives)) message_right) j (omega (arith, n)) in
        let e : message_place b + (items_in + expression_words * j) ≡ item_place b j = omega arith in
        subst (λ y. item_fits kind.receives y ≡ true) (drop-drop (items_in + expression_words * j) (message_place b) el ∙ ap (λ k. drop k el) e) h

    pub item_expression : (j : ℕ) → j < message_length el b → eqb (at (item_at el b j) form_place) binding ≡ false → expression_fits (item_at el b j) ≡ true
    unfolding item_fits
    item_expression j r e = passed_true (eqb (at (item_at el b j) form_place) binding) _ _ (item_fits_lem j r) e

    -- what does not receive binds nothing
    pub item_plain : kind.receives ≡ 0 → (j : ℕ) → j < message_length el b → eqb (at (item_at el b j) form_place) binding ≡ false
    unfolding item_fits
    item_plain z j r =
        by_test (eqb (at (item_at el b j) form_place) binding)
        (λ e. absurd (false≢true (chosen_true (eqb kind.receives none) false _ (chosen_true (eqb (at (item_at el b j) form_place) binding) _ _ (item_fits_lem j r) e) (eq-eqb kind.receives none z))))
        (λ e. e)

-- A GUARD is no default
pub guard_plain : (x : List ℕ) → condition_fits one x ≡ true → cond_at x ≡ default → ⊥
unfolding condition_fits
guard_plain x fits e =
    let d = default_is x one fits e in
    let r = passed_true (eqb (at x form_place) Places.always) _ _ fits (ne_eqb (at x form_place) Places.always (λ z. omega arith)) in
    let s = chosen_true (eqb (at x form_place) Places.default) _ _ r (eq-eqb (at x form_place) Places.default d) in
    false≢true (and_left (eqb one many) (zeros (drop left_place x) (operand_words + operand_words)) s)

-- MODES in the words and in the paper's form
unfoldable pub number_of : Mode → ℕ
number_of a = 1
number_of na_c = 2
number_of na_nc = 3

pub mode_of_lem : (k : ℕ) → k ≤ Row.na_nc → (k ≡ 0 → ⊥) → number_of (get_or (a ∷ a ∷ na_c ∷ na_nc ∷ []) k a) ≡ k
unfolding number_of
mode_of_lem zero l z = absurd (z refl)
mode_of_lem (suc zero) l z = refl
mode_of_lem (suc (suc zero)) l z = refl
mode_of_lem (suc (suc (suc zero))) l z = refl
mode_of_lem (suc (suc (suc (suc k)))) l z = absurd (omega arith)

module _ (el : List ℕ) where
  pub mode_is_na_nc : mode_in el ≡ Row.na_nc → mode_at el ≡ na_nc
  unfolding mode_at
  mode_is_na_nc e = ap (λ k. get_or (a ∷ a ∷ na_c ∷ na_nc ∷ []) k a) e

  pub mode_na_nc_is : mode_in el ≤ Row.na_nc → mode_at el ≡ na_nc → mode_in el ≡ Row.na_nc
  unfolding mode_at number_of
  mode_na_nc_is l e =
      by_test (eqb (mode_in el) 0)
      (λ z. let w : 1 ≡ 3 = ap number_of (sym (ap (λ k. get_or (a ∷ a ∷ na_c ∷ na_nc ∷ []) k a) (eqb-true (mode_in el) 0 z)) ∙ e) in absurd (omega arith))
      (λ z. sym (mode_of_lem (mode_in el) l (eqb-false (mode_in el) 0 z)) ∙ ap number_of e)

  -- a row for atomic tasks, a row for the others
  pub mode_is_a : mode_of (mode_in el) ≡ Row.a → mode_at el ≡ a
  unfolding mode_of mode_at
  mode_is_a e =
      by_test (eqb (mode_in el) Row.na_nc)
      (λ z. let w : Row.na ≡ Row.a = sym (chosen (eqb (mode_in el) Row.na_nc) Row.na (mode_in el) z) ∙ e in absurd (omega arith))
      (λ z. ap (λ k. get_or (a ∷ a ∷ na_c ∷ na_nc ∷ []) k a) (sym (passed (eqb (mode_in el) Row.na_nc) Row.na (mode_in el) z) ∙ e))

  pub mode_not-a : mode_of (mode_in el) ≡ Row.na → mode_at el ≡ a → ⊥
  unfolding mode_of mode_at number_of
  mode_not-a e f =
      by_test (eqb (mode_in el) Row.na_nc)
      (λ z. let w : 3 ≡ 1 = ap number_of (sym (ap (λ k. get_or (a ∷ a ∷ na_c ∷ na_nc ∷ []) k a) (eqb-true (mode_in el) Row.na_nc z)) ∙ f) in omega arith)
      (λ z. let w : 2 ≡ 1 = ap number_of (sym (ap (λ k. get_or (a ∷ a ∷ na_c ∷ na_nc ∷ []) k a) (sym (passed (eqb (mode_in el) Row.na_nc) Row.na (mode_in el) z) ∙ e)) ∙ f) in omega arith)
