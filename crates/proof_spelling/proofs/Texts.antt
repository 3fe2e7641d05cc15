-- AN ELEMENT AS IT IS SPELLED, part by part, is the text of the element that is drawn. t is the text, w the things of a drawing, n their count, k a node whose element is within the limits. Assumes nothing.
use Prim.Native.Char.{code}
use Prim.Native.Nat.{ℕ, zero, suc, ◌+◌, ◌*◌, ◌≤◌, ◌<◌}
use mathlib.Core.Path.{◌≡◌, refl, sym, ◌∙◌, ap, ap₂, subst}
use mathlib.Core.Bool.{Bool, true, false, ◌&&◌, ◌||◌, false≢true}
use mathlib.Core.List.{List, [], ◌∷◌, ◌++◌, map}
use native.Mathlib.Omega.{arith}
use lib.Dec.{eqb, ltb}
use lib.ListN.{length, get_or, set, drop, replicate, length-set, length-replicate, length-map, length-append}
use lib.Seq.{get_or-drop}
use borrow.Author.Tests.{eqb-true, eq-eqb}
use Rattle.base_words.specs.Each.{joined}
use Rattle.base_words.specs.Iter.{iter}
use Rattle.base_words.specs.Pick.{if◌then◌or_else◌}
use Rattle.base_words.specs.Text.{bytes}
use Rattle.base_words.specs.Words.{at, greatest}
use Rattle.base_words.proofs.AllLaws.{and_left, and_right}
use Rattle.base_words.proofs.PickLaws.{pick_yes, pick_no}
use Rattle.base_kinds.specs.Kinds as kinds
use Rattle.base_kinds.specs.Kinds.{one, none, kind_of}
use Rattle.base_kinds.specs.Moves.{a}
use Rattle.base_table.specs.Places.{a_field, always, default, equals, form_place, left_place, right_place, operand_number, kind_place, task_place, mode_place, entries_place, exits_place, condition_place, message_place, length_place, assignments_place, element_words}
use Rattle.base_table.specs.Table.{kind_in, task_in, mode_in, entry_at, exit_at, condition_at, message_name, message_length, item_at, assignment_count, assignment_at}
use Rattle.check_limits.specs.Limits.{count_fits, task_fits, element_fits}
use Rattle.write_decimals.specs.Decimals.{shown}
use Rattle.write_shown.specs.Shown.{lead, separated, commas, enclosed_by, shown_field, shown_operand, shown_pair, shown_condition, shown_tuple, shown_item, shown_message, shown_entries, shown_exits, shown_guarded, shown_guarded_list, shown_receiving, shown_receiving_list, shown_mode, shown_assignment, shown_assignments, shown_task}
use Rattle.draw_things.specs.Things.{room, one_more, sort, within, source, target, kind, is_node, place, sequence_flow, condition_expression}
use Rattle.draw_kinds.specs.Counting.{source_in, within_in, first_with, of_sort}
use Rattle.draw_conditions.specs.declared.Term.{Term}
use Rattle.draw_conditions.specs.declared.Condition.{Condition}
use Rattle.draw_conditions.specs.Conditions.{absent, bare, condition_at as conditionSaid}
use Rattle.draw_numbers.specs.Who.{is_of_kind, is_sender, is_receiver, sends, receives}
use Rattle.draw_numbers.specs.Numbers.{count_before, is_task, is_start, task_of, edge_of, first_edge_of, default_of}
use Rattle.draw_model.specs.Drawn.{with_edge, with_form, with_term, with_condition, said_or_true, guarded_by, with_guard, with_branch, exit_behind, received_by, sent_by, with_message, with_task, with_first, head_of, exit_by, by_flow, element_drawn}
use Rattle.proof_steps.proofs.Elements.{row_of, fitting_parts}
use Rattle.proof_steps.proofs.Choices.{passed_true}
use Rattle.proof_lengths.proofs.FewParts.{entries_fit, entries_few, exits_fit, exits_few, task_some}
use Rattle.proof_map.proofs.Picked.{as_many}
use Rattle.proof_map.proofs.KindLaws.{kind_drawn}
use Rattle.proof_spelling.specs.Spelling.{Collaboration, Node, Flow, gathered, node_at, flow_at, said_on, collaboration_in, parted, edge, first_edge, work, received, sent, flows_into, flows_from, entries, exits, operand, comparison, condition, guard, guarded, choices, caught, catches, braced, foremost}
use Rattle.proof_spelling.proofs.Lists.{separated_as, map_at, map-gathered}
use Rattle.proof_spelling.proofs.Runs.{set_here, set_other, either, Kept, kept_all, keep, edge_long, edge_count, edge_new, edge_other, kept_guard, count_most_lem, enters, leaves, after, after_entries, after_exits, after_entered, after_frame, after_left}
use Rattle.proof_spelling.proofs.Numbers.{edge_is, into_is, from_is, behind_is, first_is, work_is, received_is, sent_is}

-- ONE PIECE
pub one_piece : (s : ℕ) (f : ℕ → List ℕ) → separated s f 1 ≡ f 0
unfolding separated joined lead if◌then◌or_else◌
one_piece s f = refl

pub one_fits : (v : ℕ) → count_fits one v ≡ true → v ≡ 1
unfolding count_fits if◌then◌or_else◌
one_fits v h = eqb-true v 1 h

-- THE TEXT OF A CONDITION, by its five words
abbrev pub operand_text : ℕ → ℕ → List ℕ
operand_text f v = if eqb f a_field then shown_field v or_else shown v

abbrev pub condition_text : ℕ → ℕ → ℕ → ℕ → ℕ → List ℕ
condition_text f l m r s =
    if eqb f always then bytes "true"
    or_else if eqb f default then bytes "default"
    or_else if eqb f equals then operand_text l m ++ (code "=" ∷ operand_text r s)
    or_else operand_text l m ++ (code "<" ∷ operand_text r s)

operand_words : (y : List ℕ) (m : ℕ) → shown_operand (drop m y) ≡ operand_text (at y m) (at y (m + 1))
unfolding shown_operand
operand_words y m = ap₂ operand_text (get_or-drop m y 0 0 ∙ ap (at y) (let z : m + 0 ≡ m = omega arith in z)) (get_or-drop m y 1 0)

condition_words : (y : List ℕ) → shown_condition y ≡ condition_text (at y 0) (at y 1) (at y 2) (at y 3) (at y 4)
unfolding shown_condition shown_pair
condition_words y =
    ap₂ (λ (l r : List ℕ). if eqb (at y 0) always then bytes "true" or_else if eqb (at y 0) default then bytes "default" or_else if eqb (at y 0) equals then l ++ (code "=" ∷ r) or_else l ++ (code "<" ∷ r))
    (operand_words y 1) (operand_words y 3)

pub five : (f f₁ l l₁ m m₁ r r₁ s s₁ : ℕ) → f ≡ f₁ → l ≡ l₁ → m ≡ m₁ → r ≡ r₁ → s ≡ s₁ → condition_text f l m r s ≡ condition_text f₁ l₁ m₁ r₁ s₁
five f f₁ l l₁ m m₁ r r₁ s s₁ e₁ e₂ e₃ e₄ e₅ = rw (e₁, e₂, e₃, e₄, e₅)

pub condition-at : (x : List ℕ) (p : ℕ) → shown_condition (drop p x) ≡ condition_text (at x p) (at x (p + 1)) (at x (p + 2)) (at x (p + 3)) (at x (p + 4))
condition-at x p =
    condition_words (drop p x)
    ∙ five _ _ _ _ _ _ _ _ _ _ (get_or-drop p x 0 0 ∙ ap (at x) (let z : p + 0 ≡ p = omega arith in z)) (get_or-drop p x 1 0) (get_or-drop p x 2 0) (get_or-drop p x 3 0) (get_or-drop p x 4 0)

pub condition_same : (x y : List ℕ) (p : ℕ) → ((q : ℕ) → q < 5 → at y (p + q) ≡ at x (p + q)) → shown_condition (drop p y) ≡ shown_condition (drop p x)
condition_same x y p h =
    condition-at y p
    ∙ five _ _ _ _ _ _ _ _ _ _ (ap (at y) (sym e) ∙ h 0 (omega arith) ∙ ap (at x) e) (h 1 (omega arith)) (h 2 (omega arith)) (h 3 (omega arith)) (h 4 (omega arith))
    ∙ sym (condition-at x p)
  where
    e : p + 0 ≡ p
    e = omega arith

-- a condition that is stored says what it is spelled as
module _ (x : List ℕ) (c : ℕ) (long : length x ≡ element_words) (low : c < 8) where
  abbrev p : ℕ
  p = condition_place c

  form_said : (v : ℕ) (w : List ℕ) → ((l m r s : ℕ) → condition_text v l m r s ≡ w) → shown_condition (drop p (with_form c v x)) ≡ w
  unfolding with_form
  form_said v w h =
      condition-at y p
      ∙ ap (λ (f : ℕ). condition_text f (at y (p + 1)) (at y (p + 2)) (at y (p + 3)) (at y (p + 4))) (ap (at y) (let z : p ≡ p + form_place = omega arith in z) ∙ set_here x (p + form_place) v (omega (arith, long, low)))
      ∙ h (at y (p + 1)) (at y (p + 2)) (at y (p + 3)) (at y (p + 4))
    where
      y : List ℕ
      y = set x (p + form_place) v

  true_said : shown_condition (drop p (with_form c always x)) ≡ bytes "true"
  true_said = form_said always (bytes "true") (λ l m r s. unfold if◌then◌or_else◌ in refl)

  default_said : shown_condition (drop p (with_form c default x)) ≡ bytes "default"
  default_said = form_said default (bytes "default") (λ l m r s. unfold if◌then◌or_else◌ in refl)

  compared_said : (z : Condition) → shown_condition (drop p (with_condition z c x)) ≡ condition_text z.form z.left.flag z.left.number z.right.flag z.right.number
  unfolding with_condition with_term with_form
  compared_said z =
      condition-at x₅ p
      ∙ five _ _ _ _ _ _ _ _ _ _
      (other x₄ (p + 3 + 1) p _ (λ e. omega (arith, e)) ∙ other x₃ (p + 3) p _ (λ e. omega (arith, e)) ∙ other x₂ (p + 1 + 1) p _ (λ e. omega (arith, e)) ∙ other x₁ (p + 1) p _ (λ e. omega (arith, e))
      ∙ ap (at x₁) (let u : p ≡ p + 0 = omega arith in u) ∙ set_here x (p + 0) z.form (omega (arith, long, low)))
      (other x₄ (p + 3 + 1) (p + 1) _ (λ e. omega (arith, e)) ∙ other x₃ (p + 3) (p + 1) _ (λ e. omega (arith, e)) ∙ other x₂ (p + 1 + 1) (p + 1) _ (λ e. omega (arith, e)) ∙ set_here x₁ (p + 1) _ (omega (arith, long, low, length-set x (p + 0) z.form)))
      (other x₄ (p + 3 + 1) (p + 2) _ (λ e. omega (arith, e)) ∙ other x₃ (p + 3) (p + 2) _ (λ e. omega (arith, e)) ∙ ap (at x₃) (let u : p + 2 ≡ p + 1 + 1 = omega arith in u) ∙ set_here x₂ (p + 1 + 1) _ (omega (arith, long, low, l₁, l₂)))
      (other x₄ (p + 3 + 1) (p + 3) _ (λ e. omega (arith, e)) ∙ set_here x₃ (p + 3) _ (omega (arith, long, low, l₁, l₂, l₃)))
      (ap (at x₅) (let u : p + 4 ≡ p + 3 + 1 = omega arith in u) ∙ set_here x₄ (p + 3 + 1) _ (omega (arith, long, low, l₁, l₂, l₃, l₄)))
    where
      x₁ : List ℕ
      x₁ = set x (p + 0) z.form

      x₂ : List ℕ
      x₂ = set x₁ (p + 1) z.left.flag

      x₃ : List ℕ
      x₃ = set x₂ (p + 1 + 1) z.left.number

      x₄ : List ℕ
      x₄ = set x₃ (p + 3) z.right.flag

      x₅ : List ℕ
      x₅ = set x₄ (p + 3 + 1) z.right.number

      l₁ : length x₁ ≡ length x
      l₁ = length-set x (p + 0) z.form

      l₂ : length x₂ ≡ length x₁
      l₂ = length-set x₁ (p + 1) z.left.flag

      l₃ : length x₃ ≡ length x₂
      l₃ = length-set x₂ (p + 1 + 1) z.left.number

      l₄ : length x₄ ≡ length x₃
      l₄ = length-set x₃ (p + 3) z.right.flag

      other : (y : List ℕ) (i j v : ℕ) → (j ≡ i → ⊥) → at (set y i v) j ≡ at y j
      other y i j v h = set_other y i j v h

  condition_said : (z : Condition) → shown_condition (drop p (said_or_true z c x)) ≡ condition z
  unfolding said_or_true condition comparison operand
  condition_said z = go (eqb z.form absent)
    where
      go : (b : Bool) → shown_condition (drop p (if b then with_form c always x or_else with_condition z c x)) ≡ (if b then bytes "true" or_else condition_text z.form z.left.flag z.left.number z.right.flag z.right.number)
      go true = unfold if◌then◌or_else◌ in true_said
      go false = (unfold if◌then◌or_else◌ in compared_said z)

  pub guard_said : (t w : List ℕ) (n k j : ℕ) → source w j ≡ k → shown_condition (drop p (with_guard t w n k j c x)) ≡ guard (flow_at t w n j)
  unfolding with_guard guard
  guard_said t w n k j e =
      ap (λ (i : ℕ). shown_condition (drop p (if eqb (default_of t w n i) j then with_form c default x or_else guarded_by t w n j c x))) (sym e)
      ∙ go (eqb (default_of t w n (source w j)) j)
    where
      plain : guarded_by t w n j c x ≡ said_or_true (said_on t w n j) c x
      plain = unfold guarded_by said_on in same (ltb (first_with condition_expression within_in j w n) n)
        where
          same : (b : Bool) → (if b then said_or_true (conditionSaid t (place w (first_with condition_expression within_in j w n))) c x or_else with_form c always x)
              ≡ said_or_true (if b then conditionSaid t (place w (first_with condition_expression within_in j w n)) or_else bare absent) c x
          same true = unfold if◌then◌or_else◌ in refl
          same false = unfold if◌then◌or_else◌ said_or_true in refl

      go : (b : Bool) → shown_condition (drop p (if b then with_form c default x or_else guarded_by t w n j c x)) ≡ (if b then bytes "default" or_else condition (said_on t w n j))
      go true = unfold if◌then◌or_else◌ in default_said
      go false = unfold if◌then◌or_else◌ in ap (λ (z : List ℕ). shown_condition (drop p z)) plain ∙ condition_said (said_on t w n j)

-- A NODE
module _ (t w : List ℕ) (n k : ℕ) (few : n ≤ room) where
  abbrev pub d : Collaboration
  d = collaboration_in t w n

  abbrev pub el : List ℕ
  el = element_drawn t w n k

  -- its head
  abbrev pub only : List ℕ
  only = set (replicate element_words 0) kind_place (kind w k)

  abbrev pub first : List ℕ
  first = if is_task (within w k) w k then [] or_else if is_start (within w k) w k then first_edge_of w n k ∷ [] or_else []

  message_kept : (y : List ℕ) → Kept (message_place 0) y (with_message w n k y)
  unfolding with_message
  message_kept y =
      either (Kept (message_place 0) y) _ _ _ (keep (message_place 0) y y (message_place 0) _ (omega arith) (kept_all (message_place 0) y))
      (either (Kept (message_place 0) y) _ _ _ (keep (message_place 0) y y (message_place 0) _ (omega arith) (kept_all (message_place 0) y)) (kept_all (message_place 0) y))

  pub head_low : (i : ℕ) → i < message_place 0 → at (head_of w n k) i ≡ at (with_first w n k only) i
  unfolding head_of
  head_low i l = (message_kept (with_first w n k only)).low i l

  only_long : length only ≡ element_words
  only_long = length-set (replicate element_words 0) kind_place (kind w k) ∙ length-replicate {A = ℕ} element_words 0

  pub first_long : length (with_first w n k only) ≡ element_words
  unfolding with_first with_task with_form
  first_long =
      either (λ (z : List ℕ). length z ≡ element_words) _ _ _
      (length-set (set (set only task_place (task_of w k)) mode_place a) (condition_place 0 + form_place) always ∙ length-set (set only task_place (task_of w k)) mode_place a ∙ length-set only task_place (task_of w k) ∙ only_long)
      (either (λ (z : List ℕ). length z ≡ element_words) _ _ _ (edge_long entries_place (first_edge_of w n k) only ∙ only_long) only_long)

  pub head_long : length (head_of w n k) ≡ element_words
  unfolding head_of
  head_long = (message_kept (with_first w n k only)).long ∙ first_long

  first_count_lem : at (with_first w n k only) entries_place ≡ length first
  unfolding with_first with_task with_form with_edge one_more
  first_count_lem = go (is_task (within w k) w k) (is_start (within w k) w k)
    where
      go : (b c : Bool) → at (if b then with_task w k only or_else if c then with_edge entries_place (first_edge_of w n k) only or_else only) entries_place ≡ length (if b then [] or_else if c then first_edge_of w n k ∷ [] or_else [])
      go true c = unfold if◌then◌or_else◌ in refl
      go false true = unfold if◌then◌or_else◌ in refl
      go false false = unfold if◌then◌or_else◌ in refl

  first_exits : at (with_first w n k only) exits_place ≡ 0
  unfolding with_first with_task with_form with_edge one_more
  first_exits = go (is_task (within w k) w k) (is_start (within w k) w k)
    where
      go : (b c : Bool) → at (if b then with_task w k only or_else if c then with_edge entries_place (first_edge_of w n k) only or_else only) exits_place ≡ 0
      go true c = unfold if◌then◌or_else◌ in refl
      go false true = unfold if◌then◌or_else◌ in refl
      go false false = unfold if◌then◌or_else◌ in refl

  first_few : length first ≤ 1
  first_few = go (is_task (within w k) w k) (is_start (within w k) w k)
    where
      go : (b c : Bool) → length (if b then [] or_else if c then first_edge_of w n k ∷ [] or_else []) ≤ 1
      go true c = unfold if◌then◌or_else◌ in omega arith
      go false true = unfold if◌then◌or_else◌ in omega arith
      go false false = unfold if◌then◌or_else◌ in omega arith

  first_at : (i : ℕ) → i < length first → at (with_first w n k only) (entries_place + 1 + i) ≡ get_or first i 0
  unfolding with_first with_task with_form with_edge one_more
  first_at i l = go (is_task (within w k) w k) (is_start (within w k) w k) i l
    where
      go : (b c : Bool) (i : ℕ) → i < length (if b then [] or_else if c then first_edge_of w n k ∷ [] or_else [])
          → at (if b then with_task w k only or_else if c then with_edge entries_place (first_edge_of w n k) only or_else only) (entries_place + 1 + i) ≡ get_or (if b then [] or_else if c then first_edge_of w n k ∷ [] or_else []) i 0
      go true c i l = absurd (none_below i (unfold if◌then◌or_else◌ in l))
        where
          none_below : (i : ℕ) → i < 0 → ⊥
          none_below i l = omega (arith, l)
      go false true zero l = unfold if◌then◌or_else◌ in refl
      go false true (suc i) l = absurd (more_one i (unfold if◌then◌or_else◌ in l))
        where
          more_one : (i : ℕ) → suc i < 1 → ⊥
          more_one i l = omega (arith, l)
      go false false i l = absurd (none_below i (unfold if◌then◌or_else◌ in l))
        where
          none_below : (i : ℕ) → i < 0 → ⊥
          none_below i l = omega (arith, l)

  head_count : at (head_of w n k) entries_place ≡ length first
  head_count = head_low entries_place (omega arith) ∙ first_count_lem

  pub head_bare : at (head_of w n k) entries_place ≤ 1
  head_bare = omega (arith, head_count, first_few)

  pub head_none : at (head_of w n k) exits_place ≡ 0
  head_none = head_low exits_place (omega arith) ∙ first_exits

  head_at : (i : ℕ) → i < at (head_of w n k) entries_place → at (head_of w n k) (entries_place + 1 + i) ≡ get_or first i 0
  head_at i l = let u : i < length first = omega (arith, l, head_count) in head_low (entries_place + 1 + i) (omega (arith, u, first_few)) ∙ first_at i u

  -- its element
  pub el_is : after t w n k few n ≡ el
  unfolding element_drawn
  el_is = refl

  module _ (fits : element_fits el ≡ true) where
    pub ins : at (head_of w n k) entries_place + count_before (enters t w n k few) n ≤ 8
    ins = omega (arith, after_entries t w n k few head_long head_bare head_none n (omega arith), ap (λ (z : List ℕ). at z entries_place) el_is, entries_few el fits)

    pub exits_are : at el exits_place ≡ count_before (leaves t w n k few) n
    exits_are = sym (ap (λ (z : List ℕ). at z exits_place) el_is) ∙ after_exits t w n k few head_long head_bare head_none ins n (omega arith)

    pub outs : count_before (leaves t w n k few) n ≤ 8
    outs = omega (arith, exits_are, exits_few el fits)

    abbrev pub entered : List ℕ
    entered = first ++ gathered (enters t w n k few) (edge_of w) n

    entries_are : at el entries_place ≡ length first + count_before (enters t w n k few) n
    entries_are =
        sym (ap (λ (z : List ℕ). at z entries_place) el_is)
        ∙ after_entries t w n k few head_long head_bare head_none n (omega arith)
        ∙ ap (λ (v : ℕ). v + count_before (enters t w n k few) n) head_count

    pub entry_is : (i : ℕ) → i < at el entries_place → entry_at el i ≡ get_or entered i 0
    entry_is i l =
        sym (ap (λ (z : List ℕ). at z (entries_place + 1 + i)) el_is)
        ∙ after_entered t w n k few head_long head_bare head_none ins first head_count head_at n (omega arith) i (omega (arith, l, entries_are, head_count))

    -- ITS ENTRIES
    entries_text : first ≡ [] → commas (λ j. shown (entry_at el j)) (at el entries_place) ≡ entries d (node_at w k)
    unfolding entries
    entries_text e =
        separated_as (code ",") (λ j. shown (entry_at el j)) (at el entries_place) (map shown entered) long (λ i l. ap shown (entry_is i l) ∙ sym (map_at shown entered 0 [] i (omega (arith, l, long, length-map entered shown))))
        ∙ ap (parted (code ","))
        (ap (λ (z : List ℕ). map shown (z ++ gathered (enters t w n k few) (edge_of w) n)) e
        ∙ map-gathered (enters t w n k few) (edge_of w) shown n
        ∙ sym (into_is t w n few k))
      where
        long : at el entries_place ≡ length (map shown entered)
        long = entries_are ∙ sym (length-map entered shown ∙ length-append first (gathered (enters t w n k few) (edge_of w) n) ∙ ap (λ (v : ℕ). length first + v) (as_many (enters t w n k few) (edge_of w) n))

    pub not_start : eqb (kind w k) kinds.start ≡ false → first ≡ []
    unfolding is_start is_of_kind
    not_start e = ap (λ (b : Bool). if is_task (within w k) w k then [] or_else if (is_node (sort w k) && b) && eqb (within w k) (within w k) then first_edge_of w n k ∷ [] or_else []) e ∙ go (is_task (within w k) w k) (is_node (sort w k))
      where
        go : (b c : Bool) → (if b then [] or_else if (c && false) && eqb (within w k) (within w k) then first_edge_of w n k ∷ [] or_else []) ≡ []
        go true c = unfold if◌then◌or_else◌ in refl
        go false true = unfold if◌then◌or_else◌ in refl
        go false false = unfold if◌then◌or_else◌ in refl

    pub one_entry : eqb (kind w k) kinds.start ≡ false → at el entries_place ≡ 1 → shown (entry_at el 0) ≡ entries d (node_at w k)
    one_entry e h =
        sym (one_piece (code ",") (λ j. shown (entry_at el j)))
        ∙ ap (commas (λ j. shown (entry_at el j))) (sym h)
        ∙ entries_text (not_start e)

    pub many_entries : eqb (kind w k) kinds.start ≡ false → shown_entries el ≡ braced (entries d (node_at w k))
    unfolding shown_entries
    many_entries e = ap braced (entries_text (not_start e))
