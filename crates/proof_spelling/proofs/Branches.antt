-- THE EXITS OF A NODE AS THEY ARE SPELLED, and what stands beside them: plain exits, choices with their conditions, branches with their messages. Assumes nothing.
use Prim.Native.Char.{code}
use Prim.Native.Nat.{ℕ, zero, suc, ◌+◌, ◌*◌, ◌≤◌, ◌<◌}
use mathlib.Core.Path.{◌≡◌, refl, sym, ◌∙◌, ap, ap₂, subst}
use mathlib.Core.Bool.{Bool, true, false, ◌&&◌, false≢true}
use mathlib.Core.List.{List, [], ◌∷◌, ◌++◌, map}
use native.Mathlib.Omega.{arith}
use lib.Dec.{eqb}
use lib.ListN.{length, get_or, set, drop, length-set}
use borrow.Author.Tests.{eqb-true, eq-eqb}
use Rattle.base_words.specs.Each.{joined}
use Rattle.base_words.specs.Pick.{if◌then◌or_else◌}
use Rattle.base_words.specs.Text.{bytes}
use Rattle.base_words.specs.Words.{at}
use Rattle.base_words.proofs.AllLaws.{and_left, and_right}
use Rattle.base_words.proofs.PickLaws.{pick_yes, pick_no, and_true}
use Rattle.base_kinds.specs.Kinds as kinds
use Rattle.base_kinds.specs.Kinds.{one, none}
use Rattle.base_kinds.specs.Moves.{a}
use Rattle.base_table.specs.Places.{always, task_place, mode_place, entries_place, exits_place, condition_place, message_place, length_place, assignments_place, element_words}
use Rattle.base_table.specs.Table.{task_in, mode_in, entry_at, exit_at, condition_at, message_name, message_length, item_at, assignment_count, assignment_at}
use Rattle.check_limits.specs.Limits.{task_fits, element_fits}
use Rattle.write_decimals.specs.Decimals.{shown}
use Rattle.write_shown.specs.Shown.{separated, commas, enclosed_by, shown_condition, shown_tuple, shown_item, shown_message, shown_exits, shown_guarded, shown_guarded_list, shown_receiving, shown_receiving_list, shown_mode, shown_assignment, shown_assignments, shown_task}
use Rattle.draw_things.specs.Things.{room, one_more, sort, within, source, target, kind, is_node, sequence_flow}
use Rattle.draw_kinds.specs.Counting.{source_in, first_with, of_sort}
use Rattle.draw_numbers.specs.Who.{is_of_kind, is_sender, is_receiver}
use Rattle.draw_numbers.specs.Numbers.{count_before, is_task, is_start, is_of, a_task, task_of, edge_of, first_edge_of}
use Rattle.draw_model.specs.Drawn.{with_edge, with_form, with_guard, with_branch, exit_behind, received_by, sent_by, with_message, with_task, with_first, head_of, exit_by, element_drawn}
use Rattle.proof_steps.proofs.Elements.{row_of, fitting_parts}
use Rattle.proof_steps.proofs.Choices.{passed_true}
use Rattle.proof_lengths.proofs.FewParts.{task_some}
use Rattle.proof_map.proofs.Picked.{as_many}
use Rattle.proof_spelling.specs.Spelling.{Flow, gathered, node_at, flow_at, collaboration_in, parted, edge, first_edge, work, received, sent, flows_from, exits, guard, guarded, choices, caught, catches, braced, foremost}
use Rattle.proof_spelling.proofs.Lists.{separated_as}
use Rattle.proof_spelling.proofs.Runs.{set_here, set_other, more_is, either, Kept, kept_all, keep, edge_long, edge_new, edge_other, kept_guard, count_most_lem, enters, leaves, after, after_frame, after_left}
use Rattle.proof_spelling.proofs.Numbers.{edge_is, from_is, behind_is, first_is, work_is, received_is, sent_is}
use Rattle.proof_spelling.proofs.Texts.{one_piece, condition_text, condition-at, condition_same, guard_said, d, el, only, first, first_long, head_long, head_low, head_bare, head_none, el_is, ins, outs, exits_are, entry_is}

module _ (t w : List ℕ) (n k : ℕ) (few : n ≤ room) (fits : element_fits (element_drawn t w n k) ≡ true) where
  abbrev x : List ℕ
  x = element_drawn t w n k

  abbrev head : List ℕ
  head = head_of w n k

  abbrev begun : List ℕ
  begun = with_first w n k (only t w n k few)

  -- THE HEAD'S OTHER WORDS
  head_received : is_receiver w k ≡ true → at head (message_place 0) ≡ received_by w n k
  unfolding head_of with_message
  head_received h =
      ap (λ (z : List ℕ). at z (message_place 0)) (sym (pick_yes (is_receiver w k) _ _ _ h refl))
      ∙ set_here begun (message_place 0) (received_by w n k) (omega (arith, first_long t w n k few))

  head_sent : is_receiver w k ≡ false → is_sender w k ≡ true → at head (message_place 0) ≡ sent_by w n k
  unfolding head_of with_message
  head_sent h s =
      ap (λ (z : List ℕ). at z (message_place 0)) (sym (pick_no (is_receiver w k) _ _ _ h (pick_yes (is_sender w k) _ _ _ s refl)))
      ∙ set_here begun (message_place 0) (sent_by w n k) (omega (arith, first_long t w n k few))

  head_high : (i : ℕ) → message_place 0 < i → at head i ≡ at begun i
  unfolding head_of with_message
  head_high i l =
      either (λ (z : List ℕ). at z i ≡ at begun i) _ _ _ (set_other begun (message_place 0) i (received_by w n k) (λ e. omega (arith, e, l)))
      (either (λ (z : List ℕ). at z i ≡ at begun i) _ _ _ (set_other begun (message_place 0) i (sent_by w n k) (λ e. omega (arith, e, l))) refl)

  begun_zero : (i : ℕ) → condition_place 0 < i → at (only t w n k few) i ≡ 0 → at begun i ≡ 0
  unfolding with_first with_task with_form
  begun_zero i l z =
      either (λ (y : List ℕ). at y i ≡ 0) _ _ _
      (set_other (set (set (only t w n k few) task_place (task_of w k)) mode_place a) (condition_place 0 + 0) i always (λ e. omega (arith, e, l)) ∙ set_other (set (only t w n k few) task_place (task_of w k)) mode_place i a (λ e. omega (arith, e, l)) ∙ set_other (only t w n k few) task_place i (task_of w k) (λ e. omega (arith, e, l)) ∙ z)
      (either (λ (y : List ℕ). at y i ≡ 0) _ _ _ (edge_other entries_place (first_edge_of w n k) (only t w n k few) i (λ e. omega (arith, e, l)) (λ e. omega (arith, e, l)) ∙ z) z)

  head_empty : (b : ℕ) → b < 8 → at head (length_place b) ≡ 0
  head_empty b l = head_high (length_place b) (omega arith) ∙ begun_zero (length_place b) (omega arith) (blank b l)
    where
      blank : (b : ℕ) → b < 8 → at (only t w n k few) (length_place b) ≡ 0
      blank zero l = refl
      blank (suc zero) l = refl
      blank (suc (suc zero)) l = refl
      blank (suc (suc (suc zero))) l = refl
      blank (suc (suc (suc (suc zero)))) l = refl
      blank (suc (suc (suc (suc (suc zero))))) l = refl
      blank (suc (suc (suc (suc (suc (suc zero)))))) l = refl
      blank (suc (suc (suc (suc (suc (suc (suc zero))))))) l = refl
      blank (suc (suc (suc (suc (suc (suc (suc (suc b)))))))) l = absurd (omega (arith, l))

  head_idle : at head assignments_place ≡ 0
  head_idle = head_high assignments_place (omega arith) ∙ begun_zero assignments_place (omega arith) refl

  head_task : is_task (within w k) w k ≡ true → (at head task_place ≡ task_of w k) × (at head mode_place ≡ a) × (at head (condition_place 0) ≡ always)
  head_task h = (head_low t w n k few task_place (omega arith) ∙ begun_at task_place ∙ task_at, head_low t w n k few mode_place (omega arith) ∙ begun_at mode_place ∙ mode_at_lem, head_low t w n k few (condition_place 0) (omega arith) ∙ begun_at (condition_place 0) ∙ form_at)
    where
      begun_at : (i : ℕ) → at begun i ≡ at (with_task w k (only t w n k few)) i
      begun_at i = unfold with_first in ap (λ (z : List ℕ). at z i) (sym (pick_yes (is_task (within w k) w k) _ _ _ h refl))

      task_at : at (with_task w k (only t w n k few)) task_place ≡ task_of w k
      task_at = unfold with_task with_form in refl

      mode_at_lem : at (with_task w k (only t w n k few)) mode_place ≡ a
      mode_at_lem = unfold with_task with_form in refl

      form_at : at (with_task w k (only t w n k few)) (condition_place 0) ≡ always
      form_at = unfold with_task with_form in refl

  head_workless : is_task (within w k) w k ≡ false → at head task_place ≡ 0
  head_workless h = head_low t w n k few task_place (omega arith) ∙ begun_at ∙ rest (is_start (within w k) w k)
    where
      begun_at : at begun task_place ≡ at (if is_start (within w k) w k then with_edge entries_place (first_edge_of w n k) (only t w n k few) or_else only t w n k few) task_place
      begun_at = unfold with_first in ap (λ (z : List ℕ). at z task_place) (sym (pick_no (is_task (within w k) w k) _ _ _ h refl))

      rest : (b : Bool) → at (if b then with_edge entries_place (first_edge_of w n k) (only t w n k few) or_else only t w n k few) task_place ≡ 0
      rest true = unfold if◌then◌or_else◌ with_edge one_more in refl
      rest false = unfold if◌then◌or_else◌ in refl

  -- PLAIN EXITS
  record Framed (y : List ℕ) : Type 0 where
    pub low : (i : ℕ) → i < entries_place → at y i ≡ at head i
    pub high : (i : ℕ) → 20 < i → at y i ≡ at head i

  frame_edge : (list e : ℕ) (y : List ℕ) → entries_place ≤ list → list ≤ exits_place → at y list < 8 → Framed y → Framed (with_edge list e y)
  frame_edge list e y l h r f =
      record {
        low = λ i u. edge_other list e y i (λ q. omega (arith, q, u, l)) (λ q. omega (arith, q, u, l)) ∙ f.low i u;
        high = λ i u. edge_other list e y i (λ q. omega (arith, q, u, h)) (λ q. omega (arith, q, u, h, r)) ∙ f.high i u;
      }

  head_framed : Framed head
  head_framed = record { low = λ i u. refl; high = λ i u. refl }

  module _ (gate : eqb (kind w k) kinds.event_based ≡ false) (split : eqb (kind w k) kinds.xor_split ≡ false) where
    exit_plain : (j : ℕ) (y : List ℕ) → exit_by t w n k j y ≡ with_edge exits_place (edge_of w j) y
    unfolding exit_by
    exit_plain j y = sym (pick_no (eqb (kind w k) kinds.event_based) _ _ _ gate (pick_no (eqb (kind w k) kinds.xor_split) _ _ _ split refl))

    abbrev plain : List ℕ → ℕ → List ℕ
    plain y i = shown (exit_at y i)

    in_plain : (e i : ℕ) (y : List ℕ) → length y ≡ element_words → at y entries_place < 8 → i < 8 → plain (with_edge entries_place e y) i ≡ plain y i
    in_plain e i y l r u = ap shown (edge_other entries_place e y (exits_place + 1 + i) (λ q. omega (arith, q)) (λ q. omega (arith, q, r)))

    old_plain : (j i : ℕ) (y : List ℕ) → length y ≡ element_words → at y exits_place < 8 → i < at y exits_place → plain (exit_by t w n k j y) i ≡ plain y i
    old_plain j i y l r u = ap (λ (z : List ℕ). plain z i) (exit_plain j y) ∙ ap shown (edge_other exits_place (edge_of w j) y (exits_place + 1 + i) (λ q. omega (arith, q)) (λ q. omega (arith, q, u)))

    new_plain : (j : ℕ) (y : List ℕ) → j < n → length y ≡ element_words → at y exits_place < 8 → leaves t w n k few j ≡ true → plain (exit_by t w n k j y) (at y exits_place) ≡ shown (edge_of w j)
    new_plain j y u l r h = ap (λ (z : List ℕ). plain z (at y exits_place)) (exit_plain j y) ∙ ap shown (edge_new exits_place (edge_of w j) y (omega (arith, l, r)))

    in_frame : (e : ℕ) (y : List ℕ) → length y ≡ element_words → at y entries_place < 8 → Framed y → Framed (with_edge entries_place e y)
    in_frame e y l r f = frame_edge entries_place e y (omega arith) (omega arith) r f

    out_frame : (j : ℕ) (y : List ℕ) → length y ≡ element_words → at y exits_place < 8 → Framed y → Framed (exit_by t w n k j y)
    out_frame j y l r f = subst Framed (sym (exit_plain j y)) (frame_edge exits_place (edge_of w j) y (omega arith) (omega arith) r f)

    frame : Framed x
    frame =
        subst Framed (el_is t w n k few)
        (after_frame t w n k few (head_long t w n k few) (head_bare t w n k few) (head_none t w n k few) (ins t w n k few fits) (outs t w n k few fits)
        plain (λ j. shown (edge_of w j)) Framed in_plain in_frame old_plain new_plain out_frame head_framed n (omega arith))

    plain_left : (i : ℕ) → i < at x exits_place → plain x i ≡ get_or (gathered (leaves t w n k few) (λ j. shown (edge_of w j)) n) i []
    plain_left i l =
        sym (ap (λ (z : List ℕ). plain z i) (el_is t w n k few))
        ∙ after_left t w n k few (head_long t w n k few) (head_bare t w n k few) (head_none t w n k few) (ins t w n k few fits) (outs t w n k few fits)
        plain (λ j. shown (edge_of w j)) Framed in_plain in_frame old_plain new_plain out_frame n (omega arith) i (omega (arith, l, exits_are t w n k few fits))

    exits_text : commas (λ j. shown (exit_at x j)) (at x exits_place) ≡ exits (d t w n k few) (node_at w k)
    unfolding exits
    exits_text =
        separated_as (code ",") (λ j. shown (exit_at x j)) (at x exits_place) (gathered (leaves t w n k few) (λ j. shown (edge_of w j)) n)
        (exits_are t w n k few fits ∙ sym (as_many (leaves t w n k few) (λ j. shown (edge_of w j)) n)) plain_left
        ∙ ap (parted (code ",")) (sym (from_is t w n few (edge (d t w n k few)) (λ j. shown (edge_of w j)) k (λ j l h. edge_is t w n few j (omega (arith, l)))))

    pub one_exit : at x exits_place ≡ 1 → shown (exit_at x 0) ≡ exits (d t w n k few) (node_at w k)
    one_exit h = sym (one_piece (code ",") (λ j. shown (exit_at x j))) ∙ ap (commas (λ j. shown (exit_at x j))) (sym h) ∙ exits_text

    pub many_exits : shown_exits x ≡ braced (exits (d t w n k few) (node_at w k))
    unfolding shown_exits
    many_exits = ap braced exits_text

    -- its message
    message_text_lem : (v : ℕ) → at head (message_place 0) ≡ v → shown_message x 0 ≡ shown v ++ bytes ":<>"
    unfolding shown_message shown_tuple
    message_text_lem v e =
        ap₂ (λ (u m : ℕ). shown u ++ (code ":" ∷ enclosed_by (code "<") (code ">") (commas (λ j. shown_item (item_at x 0 j)) m)))
        (frame.high (message_place 0) (omega arith) ∙ e) (frame.high (length_place 0) (omega arith) ∙ head_empty 0 (omega arith))
        ∙ (unfold separated joined in refl)

    pub receives_text : is_receiver w k ≡ true → shown_message x 0 ≡ received (d t w n k few) k
    receives_text h = message_text_lem (received_by w n k) (head_received h) ∙ sym (received_is t w n few k)

    pub sends_text : is_receiver w k ≡ false → is_sender w k ≡ true → shown_message x 0 ≡ sent (d t w n k few) k
    sends_text h s = message_text_lem (sent_by w n k) (head_sent h s) ∙ sym (sent_is t w n few k)

    -- its task
    is_task_lem : (row_of x).task ≡ one → is_task (within w k) w k ≡ true
    is_task_lem r = go (is_task (within w k) w k) refl
      where
        go : (b : Bool) → is_task (within w k) w k ≡ b → b ≡ true
        go true e = refl
        go false e = absurd (omega (arith, task_some x fits r, frame.low task_place (omega arith), head_workless e))

    pub task_text_lem : (row_of x).task ≡ one → k ≤ n → shown_task x ≡ work (d t w n k few) (node_at w k)
    unfolding shown_task shown_mode if◌then◌or_else◌
    task_text_lem r l =
        ap₂ (λ (u v : ℕ). shown u ++ (code "," ∷ (shown_mode v ++ (code "," ∷ (shown_condition (condition_at x 0) ++ (code "," ∷ shown_assignments x)))))) (frame.low task_place (omega arith) ∙ h.0) (frame.low mode_place (omega arith) ∙ h.1)
        ∙ ap₂ (λ (u v : List ℕ). shown (task_of w k) ++ (code "," ∷ (shown_mode a ++ (code "," ∷ (u ++ (code "," ∷ v)))))) always_said nothing_assigned
        ∙ sym (work_is t w n few k l)
      where
        h : (at head task_place ≡ task_of w k) × (at head mode_place ≡ a) × (at head (condition_place 0) ≡ always)
        h = head_task (is_task_lem r)

        always_said : shown_condition (condition_at x 0) ≡ bytes "true"
        always_said = condition-at x (condition_place 0) ∙ ap (λ (f : ℕ). condition_text f (at x (condition_place 0 + 1)) (at x (condition_place 0 + 2)) (at x (condition_place 0 + 3)) (at x (condition_place 0 + 4))) (frame.high (condition_place 0) (omega arith) ∙ h.2) ∙ (unfold if◌then◌or_else◌ in refl)

        nothing_assigned : shown_assignments x ≡ bytes "{}"
        nothing_assigned =
            unfold shown_assignments in
            ap (λ (m : ℕ). enclosed_by (code "{") (code "}") (commas (λ j. shown_assignment (assignment_at x j)) m)) (frame.high assignments_place (omega arith) ∙ head_idle)
            ∙ (unfold separated joined in refl)

    -- a start is no task
    no_task : (row_of x).task ≡ none → k ≤ n → is_task (within w k) w k ≡ false
    no_task r l = go (is_task (within w k) w k) refl
      where
        number : task_of w k ≡ count_before (is_of a_task (within w k) w) k + 1
        number = unfold task_of in more_is (count_before (is_of a_task (within w k) w) k) (omega (arith, count_most_lem (is_of a_task (within w k) w) k, l, few))

        idle : task_in x ≡ 0
        idle =
            unfold task_fits in
            eqb-true (task_in x) 0
            (and_left (eqb (task_in x) 0) (eqb (mode_in x) 0)
            (and_left (eqb (task_in x) 0 && eqb (mode_in x) 0) (eqb (assignment_count x) 0) (passed_true (eqb (row_of x).task one) _ _ (fitting_parts x fits).task (ap (λ (c : ℕ). eqb c one) r))))

        go : (b : Bool) → is_task (within w k) w k ≡ b → b ≡ false
        go true e = absurd (omega (arith, number, idle, frame.low task_place (omega arith), (head_task e).0))
        go false e = refl

    pub start_entry : is_start (within w k) w k ≡ true → (row_of x).task ≡ none → k ≤ n → at x entries_place ≡ 1 → shown (entry_at x 0) ≡ first_edge (d t w n k few) (node_at w k)
    start_entry s r l h = ap shown (entry_is t w n k few fits 0 (omega (arith, h)) ∙ here) ∙ sym (first_is t w n few k)
      where
        here : get_or (first t w n k few ++ gathered (enters t w n k few) (edge_of w) n) 0 0 ≡ first_edge_of w n k
        here =
            ap₂ (λ (b c : Bool). get_or ((if b then [] or_else if c then first_edge_of w n k ∷ [] or_else []) ++ gathered (enters t w n k few) (edge_of w) n) 0 0) (no_task r l) s
            ∙ (unfold if◌then◌or_else◌ in refl)

  -- CHOICES
  module _ (gate : eqb (kind w k) kinds.event_based ≡ false) (split : eqb (kind w k) kinds.xor_split ≡ true) where
    exit_guarded : (j : ℕ) (y : List ℕ) → exit_by t w n k j y ≡ with_edge exits_place (edge_of w j) (with_guard t w n k j (at y exits_place) y)
    unfolding exit_by
    exit_guarded j y = sym (pick_no (eqb (kind w k) kinds.event_based) _ _ _ gate (pick_yes (eqb (kind w k) kinds.xor_split) _ _ _ split refl))

    abbrev Nothing : List ℕ → Type 0
    Nothing y = 0 ≤ 0

    abbrev chosen : ℕ → List ℕ
    chosen j = guarded (d t w n k few) (flow_at t w n j)

    in_choice : (e i : ℕ) (y : List ℕ) → length y ≡ element_words → at y entries_place < 8 → i < 8 → shown_guarded (with_edge entries_place e y) i ≡ shown_guarded y i
    unfolding shown_guarded
    in_choice e i y l r u =
        ap₂ (λ (v : ℕ) (c : List ℕ). enclosed_by (code "(") (code ")") (shown v ++ (code "," ∷ c))) (edge_other entries_place e y (exits_place + 1 + i) (λ q. omega (arith, q)) (λ q. omega (arith, q, r)))
        (condition_same y (with_edge entries_place e y) (condition_place i) (λ q s. edge_other entries_place e y (condition_place i + q) (λ z. omega (arith, z)) (λ z. omega (arith, z, r))))

    module _ (j : ℕ) (y : List ℕ) (l : length y ≡ element_words) (r : at y exits_place < 8) where
      abbrev c : ℕ
      c = at y exits_place

      abbrev y₁ : List ℕ
      y₁ = with_guard t w n k j (at y exits_place) y

      kept : Kept (condition_place (at y exits_place)) y y₁
      kept = kept_guard t w n (condition_place (at y exits_place)) k j (at y exits_place) y y (omega arith) (kept_all (condition_place (at y exits_place)) y)

      same_count : at y₁ exits_place ≡ at y exits_place
      same_count = kept.low exits_place (omega arith)

      older : (i : ℕ) → i < at y exits_place → shown_guarded (with_edge exits_place (edge_of w j) y₁) i ≡ shown_guarded y i
      unfolding shown_guarded
      older i u =
          ap₂ (λ (v : ℕ) (c : List ℕ). enclosed_by (code "(") (code ")") (shown v ++ (code "," ∷ c)))
          (edge_other exits_place (edge_of w j) y₁ (exits_place + 1 + i) (λ q. omega (arith, q)) (λ q. omega (arith, q, u, same_count)) ∙ kept.low (exits_place + 1 + i) (omega (arith, u, r)))
          (condition_same y (with_edge exits_place (edge_of w j) y₁) (condition_place i)
          (λ q s. edge_other exits_place (edge_of w j) y₁ (condition_place i + q) (λ z. omega (arith, z)) (λ z. omega (arith, z, same_count, r)) ∙ kept.low (condition_place i + q) (omega (arith, s, u))))

      newest : j < n → source w j ≡ k → shown_guarded (with_edge exits_place (edge_of w j) y₁) (at y exits_place) ≡ guarded (d t w n k few) (flow_at t w n j)
      unfolding shown_guarded guarded
      newest u e =
          ap₂ (λ (v c : List ℕ). enclosed_by (code "(") (code ")") (v ++ (code "," ∷ c)))
          (ap shown (ap (λ (q : ℕ). at (with_edge exits_place (edge_of w j) y₁) (exits_place + 1 + q)) (sym same_count) ∙ edge_new exits_place (edge_of w j) y₁ (omega (arith, l, kept.long, same_count, r))) ∙ sym (edge_is t w n few j (omega (arith, u))))
          (condition_same y₁ (with_edge exits_place (edge_of w j) y₁) (condition_place (at y exits_place))
          (λ q s. edge_other exits_place (edge_of w j) y₁ (condition_place (at y exits_place) + q) (λ z. omega (arith, z)) (λ z. omega (arith, z, same_count, r)))
          ∙ guard_said y (at y exits_place) l r t w n k j e)

    old_choice : (j i : ℕ) (y : List ℕ) → length y ≡ element_words → at y exits_place < 8 → i < at y exits_place → shown_guarded (exit_by t w n k j y) i ≡ shown_guarded y i
    old_choice j i y l r u = ap (λ (z : List ℕ). shown_guarded z i) (exit_guarded j y) ∙ older j y l r i u

    new_choice : (j : ℕ) (y : List ℕ) → j < n → length y ≡ element_words → at y exits_place < 8 → leaves t w n k few j ≡ true → shown_guarded (exit_by t w n k j y) (at y exits_place) ≡ chosen j
    new_choice j y u l r h =
        ap (λ (z : List ℕ). shown_guarded z (at y exits_place)) (exit_guarded j y)
        ∙ newest j y l r u (eqb-true (source w j) k (and_right (of_sort sequence_flow w j) (eqb (source w j) k) h))

    choices_left : (i : ℕ) → i < at x exits_place → shown_guarded x i ≡ get_or (gathered (leaves t w n k few) chosen n) i []
    choices_left i l =
        sym (ap (λ (z : List ℕ). shown_guarded z i) (el_is t w n k few))
        ∙ after_left t w n k few (head_long t w n k few) (head_bare t w n k few) (head_none t w n k few) (ins t w n k few fits) (outs t w n k few fits)
        shown_guarded chosen Nothing in_choice (λ e y l r f. f) old_choice new_choice (λ j y l r f. f) n (omega arith) i (omega (arith, l, exits_are t w n k few fits))

    pub choices_text : shown_guarded_list x ≡ choices (d t w n k few) (node_at w k)
    unfolding shown_guarded_list choices
    choices_text =
        ap braced
        (separated_as (code ",") (shown_guarded x) (at x exits_place) (gathered (leaves t w n k few) chosen n) (exits_are t w n k few fits ∙ sym (as_many (leaves t w n k few) chosen n)) choices_left
        ∙ ap (parted (code ",")) (sym (from_is t w n few (guarded (d t w n k few)) chosen k (λ j l h. refl))))

  -- BRANCHES
  module _ (gate : eqb (kind w k) kinds.event_based ≡ true)
      (goes_on : (j : ℕ) → j < n → of_sort sequence_flow w j ≡ true → source w j ≡ k → first_with sequence_flow source_in (target w j) w n < n) where
    exit_branch : (j : ℕ) (y : List ℕ) → exit_by t w n k j y ≡ with_branch w n j y
    unfolding exit_by
    exit_branch j y = sym (pick_yes (eqb (kind w k) kinds.event_based) _ _ _ gate refl)

    abbrev branch_text : List ℕ → ℕ → List ℕ
    branch_text y i = enclosed_by (code "(") (code ")") ((shown (message_name y i) ++ bytes ":<>") ++ (code "," ∷ shown (exit_at y i)))

    abbrev awaited : ℕ → List ℕ
    awaited j = caught (d t w n k few) (flow_at t w n j)

    record Empty (y : List ℕ) : Type 0 where
      pub lengths : (b : ℕ) → b < 8 → at y (length_place b) ≡ 0

    in_branch : (e i : ℕ) (y : List ℕ) → length y ≡ element_words → at y entries_place < 8 → i < 8 → branch_text (with_edge entries_place e y) i ≡ branch_text y i
    in_branch e i y l r u =
        ap₂ (λ (m v : ℕ). enclosed_by (code "(") (code ")") ((shown m ++ bytes ":<>") ++ (code "," ∷ shown v)))
        (edge_other entries_place e y (message_place i) (λ q. omega (arith, q)) (λ q. omega (arith, q, r))) (edge_other entries_place e y (exits_place + 1 + i) (λ q. omega (arith, q)) (λ q. omega (arith, q, r)))

    in_empty : (e : ℕ) (y : List ℕ) → length y ≡ element_words → at y entries_place < 8 → Empty y → Empty (with_edge entries_place e y)
    in_empty e y l r f = record { lengths = λ b u. edge_other entries_place e y (length_place b) (λ q. omega (arith, q)) (λ q. omega (arith, q, r)) ∙ f.lengths b u }

    module _ (j : ℕ) (y : List ℕ) (l : length y ≡ element_words) (r : at y exits_place < 8) where
      abbrev m : ℕ
      m = received_by w n (target w j)

      abbrev y₂ : List ℕ
      y₂ = set y (message_place (at y exits_place)) (received_by w n (target w j))

      same_exits : at y₂ exits_place ≡ at y exits_place
      same_exits = set_other y (message_place (at y exits_place)) exits_place m (λ q. omega (arith, q))

      earlier : (i : ℕ) → i < at y exits_place → branch_text (with_edge exits_place (exit_behind w n j) y₂) i ≡ branch_text y i
      earlier i u =
          ap₂ (λ (m v : ℕ). enclosed_by (code "(") (code ")") ((shown m ++ bytes ":<>") ++ (code "," ∷ shown v)))
          (edge_other exits_place (exit_behind w n j) y₂ (message_place i) (λ q. omega (arith, q)) (λ q. omega (arith, q, same_exits, r)) ∙ set_other y (message_place (at y exits_place)) (message_place i) m (λ q. omega (arith, q, u)))
          (edge_other exits_place (exit_behind w n j) y₂ (exits_place + 1 + i) (λ q. omega (arith, q)) (λ q. omega (arith, q, same_exits, u)) ∙ set_other y (message_place (at y exits_place)) (exits_place + 1 + i) m (λ q. omega (arith, q, u, r)))

      latest : j < n → of_sort sequence_flow w j ≡ true → source w j ≡ k → branch_text (with_edge exits_place (exit_behind w n j) y₂) (at y exits_place) ≡ caught (d t w n k few) (flow_at t w n j)
      unfolding caught
      latest u s e =
          ap₂ (λ (m v : List ℕ). enclosed_by (code "(") (code ")") (m ++ (code "," ∷ v)))
          (ap (λ (v : ℕ). shown v ++ bytes ":<>")
          (edge_other exits_place (exit_behind w n j) y₂ (message_place (at y exits_place)) (λ q. omega (arith, q)) (λ q. omega (arith, q, same_exits, r)) ∙ set_here y (message_place (at y exits_place)) m (omega (arith, l, r)))
          ∙ sym (received_is t w n few (target w j)))
          (ap shown (ap (λ (q : ℕ). at (with_edge exits_place (exit_behind w n j) y₂) (exits_place + 1 + q)) (sym same_exits) ∙ edge_new exits_place (exit_behind w n j) y₂ (omega (arith, l, length-set y (message_place (at y exits_place)) m, same_exits, r)))
          ∙ (unfold exit_behind in sym (behind_is t w n few (target w j) (goes_on j u s e))))

      still_empty : Empty y → Empty (with_edge exits_place (exit_behind w n j) y₂)
      still_empty f =
          record {
            lengths = λ b u. edge_other exits_place (exit_behind w n j) y₂ (length_place b) (λ q. omega (arith, q)) (λ q. omega (arith, q, same_exits, r))
                ∙ set_other y (message_place (at y exits_place)) (length_place b) m (λ q. omega (arith, q)) ∙ f.lengths b u;
          }

    branch_is : (j : ℕ) (y : List ℕ) → exit_by t w n k j y ≡ with_edge exits_place (exit_behind w n j) (set y (message_place (at y exits_place)) (received_by w n (target w j)))
    branch_is j y = exit_branch j y ∙ (unfold with_branch in refl)

    old_branch : (j i : ℕ) (y : List ℕ) → length y ≡ element_words → at y exits_place < 8 → i < at y exits_place → branch_text (exit_by t w n k j y) i ≡ branch_text y i
    old_branch j i y l r u = ap (λ (z : List ℕ). branch_text z i) (branch_is j y) ∙ earlier j y l r i u

    new_branch : (j : ℕ) (y : List ℕ) → j < n → length y ≡ element_words → at y exits_place < 8 → leaves t w n k few j ≡ true → branch_text (exit_by t w n k j y) (at y exits_place) ≡ awaited j
    new_branch j y u l r h =
        ap (λ (z : List ℕ). branch_text z (at y exits_place)) (branch_is j y)
        ∙ latest j y l r u (and_left (of_sort sequence_flow w j) (eqb (source w j) k) h) (eqb-true (source w j) k (and_right (of_sort sequence_flow w j) (eqb (source w j) k) h))

    out_empty : (j : ℕ) (y : List ℕ) → length y ≡ element_words → at y exits_place < 8 → Empty y → Empty (exit_by t w n k j y)
    out_empty j y l r f = subst Empty (sym (branch_is j y)) (still_empty j y l r f)

    empty : Empty x
    empty =
        subst Empty (el_is t w n k few)
        (after_frame t w n k few (head_long t w n k few) (head_bare t w n k few) (head_none t w n k few) (ins t w n k few fits) (outs t w n k few fits)
        branch_text awaited Empty in_branch in_empty old_branch new_branch out_empty (record { lengths = head_empty }) n (omega arith))

    branches_left : (i : ℕ) → i < at x exits_place → shown_receiving x i ≡ get_or (gathered (leaves t w n k few) awaited n) i []
    unfolding shown_receiving shown_message shown_tuple separated joined
    branches_left i l =
        ap (λ (m : ℕ). enclosed_by (code "(") (code ")") ((shown (message_name x i) ++ (code ":" ∷ enclosed_by (code "<") (code ">") (commas (λ j. shown_item (item_at x i j)) m))) ++ (code "," ∷ shown (exit_at x i))))
        (empty.lengths i (omega (arith, l, exits_are t w n k few fits, outs t w n k few fits)))
        ∙ sym (ap (λ (z : List ℕ). branch_text z i) (el_is t w n k few))
        ∙ after_left t w n k few (head_long t w n k few) (head_bare t w n k few) (head_none t w n k few) (ins t w n k few fits) (outs t w n k few fits)
        branch_text awaited Empty in_branch in_empty old_branch new_branch out_empty n (omega arith) i (omega (arith, l, exits_are t w n k few fits))

    pub catches_text : shown_receiving_list x ≡ catches (d t w n k few) (node_at w k)
    unfolding shown_receiving_list catches
    catches_text =
        separated_as (code ",") (shown_receiving x) (at x exits_place) (gathered (leaves t w n k few) awaited n) (exits_are t w n k few fits ∙ sym (as_many (leaves t w n k few) awaited n)) branches_left
        ∙ ap (parted (code ",")) (sym (from_is t w n few (caught (d t w n k few)) awaited k (λ j l h. refl)))
