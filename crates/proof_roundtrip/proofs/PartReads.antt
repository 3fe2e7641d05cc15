-- THE PARTS OF AN ELEMENT'S TEXT READ BACK. Assumes nothing.
use Prim.Native.Nat.{ℕ, ◌+◌, ◌-◌, ◌*◌, ◌/◌, ◌<◌, ◌≤◌}
use mathlib.Core.Path.{◌≡◌, ◌∙◌, refl, sym, ap}
use mathlib.Core.Bool.{true, false}
use mathlib.Core.List.{List, [], ◌∷◌, ◌++◌, append_assoc, append-nil}
use mathlib.Core.Logic.{◌⊎◌, inl, inr, ⊎_elim}
use native.Mathlib.Decide.{ℕ_discrete, dec_lt}
use native.Mathlib.Omega.{arith}
use lib.ListN.{drop}
use lib.Seq.{get_or-drop, drop-drop}
use Rattle.base_words.specs.Counts.{branches, edges, tasks, names, values, assignments}
use Rattle.base_words.specs.Pick.{if◌then◌or_else◌}
use Rattle.base_words.specs.Words.{at, greatest}
use Rattle.base_table.specs.Places.{expression_words, first_edge, message_words, assignment_words, exits_place, edge_place, condition_place, message_place, length_place, item_place, assignments_place, assignment_place, task_place, mode_place, element_words}
use Rattle.base_table.specs.Table.{exit_at, condition_at, message_length, item_at, assignment_at}
use Rattle.check_limits.specs.Limits.{things, item_fits, condition_fits, message_fits, assignment_fits, edges_fit, task_fits}
use Rattle.text_lexer.specs.Lexer.{is_sign, is_word}
use Rattle.base_bytes.specs.Bytes.{is_letter, is_digit, between as lies, among}
use Rattle.text_readers.specs.Reading.{starts_sign}
use Rattle.text_parts.specs.Parts.{edge, assignment, guarded, a_template_item, a_message_item, edge_list, guarded_list, assignment_list, tuple, item_of, series, message, receiving, receiving_branches, one_edge, task_part}
use Rattle.write_decimals.specs.Decimals.{shown}
use Rattle.write_shown.specs.Shown.{commas, enclosed_by, shown_field, shown_expression, shown_item, shown_condition, shown_tuple, shown_message, shown_guarded, shown_guarded_list, shown_receiving, shown_receiving_list, shown_assignment, shown_assignments, shown_task}
use Rattle.proof_roundtrip.specs.Trip.{may_follow, may_close}
use Rattle.proof_roundtrip.proofs.ReadsLaws.{Reads, Both, anything, Nowhere, reads_text, reads_before, reads_wider, reads_then, reads_store}
use Rattle.proof_roundtrip.proofs.SignReads.{opens, opens_on, shuts, unequal, closes_stops, reads_sign, reads_colon, reads_assign}
use Rattle.proof_roundtrip.proofs.NumberReads.{Span, span_one, span_split, shown_spelled, spelled_worded, worded_opens, field_worded, reads_number, reads_field, reads_mode}
use Rattle.proof_roundtrip.proofs.ExpressionLaws.{expression_opens, text_bind, text_item}
use Rattle.proof_roundtrip.proofs.ExpressionReads.{reads_expression, reads_item, reads_sent, reads_condition}
use Rattle.proof_roundtrip.proofs.ListReads.{reads_commas, reads_series}
use Rattle.proof_roundtrip.proofs.FitsLaws.{things_right, things_none, edge_range, edges_none, message_name_lem, message_length_lem, message_item, message_none, assignment_ranges, task_ranges}

-- the words of a list of edges with its count; of all conditions, messages; of the assignments with their count
abbrev pub list_words : ℕ
list_words = first_edge + branches

abbrev pub conditions_words : ℕ
conditions_words = expression_words * branches

abbrev pub messages_words : ℕ
messages_words = message_words * branches

abbrev pub assignments_words : ℕ
assignments_words = 1 + assignment_words * assignments

comma : is_sign 44 ≡ true
unfolding is_sign among
comma = refl

module _ (el : List ℕ) (small : (i : ℕ) → at el i ≤ greatest) where
  -- AN EDGE
  reads_edge : (place : ℕ) → place < element_words → (1 ≤ at el place) × (at el place ≤ edges) → Reads el (edge place) (shown (at el place)) may_follow (λ i. i ≡ place)
  reads_edge place h r = reads_number 1 edges place h r.0 r.1 (small place)

  number_opens : (s place : ℕ) → opens s (shown (at el place)) ≡ true
  number_opens s place = worded_opens s (shown (at el place)) (spelled_worded (shown_spelled (at el place) (small place)))

  -- ONE EDGE in a list of one; a list of edges
  module _ (list : ℕ) (h : list + branches < element_words) (column : ℕ) (fit : edges_fit column (drop list el) ≡ true) where
    pub reads_one : at el list ≡ 1 → Reads el (one_edge list) (shown (at el (edge_place list 0))) may_follow (Span list list_words)
    unfolding one_edge
    reads_one e =
        reads_wider region
        (reads_text (append-nil (shown (at el (edge_place list 0))))
        (reads_then (reads_edge (edge_place list 0) (omega (arith, h)) (edge_range el column list fit 0 (omega (arith, e)))) (reads_before (λ rest k. refl) (reads_store list 1 (omega (arith, h)) (sym e))) (λ rest k. k)))
      where
        region : (i : ℕ) → Span list list_words i → Both (λ i. i ≡ edge_place list 0) (λ i. i ≡ list) i ⊎ (at el i ≡ 0)
        region i s = go (ℕ_discrete i list) (ℕ_discrete i (edge_place list 0))
          where
            go : Dec (i ≡ list) → Dec (i ≡ edge_place list 0) → Both (λ i. i ≡ edge_place list 0) (λ i. i ≡ list) i ⊎ (at el i ≡ 0)
            go (yes q) t = inl (inr q)
            go (no q) (yes t) = inl (inl t)
            go (no q) (no t) = inr (edges_none el column list fit i (omega (arith, q, t, e, s.0)) s.1)

    edge_item : (q : ℕ) → q < branches → q < at el list → Reads el (item_of (edge_list list) q) (shown (at el (edge_place list q))) may_close (λ i. i ≡ edge_place list q)
    unfolding item_of if◌then◌or_else◌
    edge_item q b l = reads_before closes_stops (reads_edge (edge_place list q) (omega (arith, h, b)) (edge_range el column list fit q l))

    pub reads_edges : 2 ≤ at el list → at el list ≤ branches → Reads el (series (edge_list list)) (enclosed_by 123 125 (commas (λ j. shown (at el (edge_place list j))) (at el list))) anything (Span list list_words)
    reads_edges l m =
        reads_wider region
        (reads_series el (edge_list list) (at el list) (λ j. shown (at el (edge_place list j))) (λ q i. i ≡ edge_place list q) refl (omega (arith, h)) l m
        (unfold is_sign among in refl) (unfold is_sign among in refl) (λ rest. unfold shuts in refl) (λ z. number_opens 125 (edge_place list 0))
        (λ q z. edge_item q (omega (arith, z, m)) z))
      where
        region : (i : ℕ) → Span list list_words i → ((i ≡ list) ⊎ ((q : ℕ) × (q < at el list) × (i ≡ edge_place list q))) ⊎ (at el i ≡ 0)
        region i s = go (ℕ_discrete i list) (dec_lt i (list + 1 + at el list))
          where
            go : Dec (i ≡ list) → Dec (i < list + 1 + at el list) → ((i ≡ list) ⊎ ((q : ℕ) × (q < at el list) × (i ≡ edge_place list q))) ⊎ (at el i ≡ 0)
            go (yes q) t = inl (inl q)
            go (no q) (yes t) = inl (inr (i - (list + 1), omega (arith, q, t, s.0), omega (arith, q, s.0)))
            go (no q) (no t) = inr (edges_none el column list fit i (omega (arith, t)) s.1)

  -- A MESSAGE of branch b, whose items are read as the code says
  item_opens : (place : ℕ) → opens 62 (shown_item (drop place el)) ≡ true
  item_opens place = go (ℕ_discrete (at (drop place el) 0) 4)
    where
      go : Dec (at (drop place el) 0 ≡ 4) → opens 62 (shown_item (drop place el)) ≡ true
      go (yes e) = ap (opens 62) (sym (text_bind (drop place el) e)) ∙ (unfold opens is_sign among is_word is_letter is_digit lies in refl)
      go (no n) =
          ap (opens 62) (sym (text_item (drop place el) n))
          ∙ expression_opens (drop place el) 62 (rw (drop-drop 1 place el, get_or-drop) (small (place + 1 + 1)))

  module _ (item b receives : ℕ) (h : b < branches) (fit : message_fits receives (drop (message_place b) el) ≡ true)
      (one : (j : ℕ) → j < values → item_fits receives (drop (item_place b j) el) ≡ true → Reads el (item_of (tuple item b) j) (shown_item (item_at el b j)) may_close (Span (item_place b j) expression_words)) where
    abbrev Tupled : ℕ → Type 0
    Tupled i = (i ≡ length_place b) ⊎ ((q : ℕ) × (q < message_length el b) × Span (item_place b q) expression_words i)

    length_small : message_length el b ≤ values
    length_small = message_length_lem el receives (message_place b) fit

    reads_tuple : Reads el (series (tuple item b)) (shown_tuple el b) anything Tupled
    unfolding shown_tuple
    reads_tuple =
        reads_series el (tuple item b) (message_length el b) (λ j. shown_item (item_at el b j)) (λ q. Span (item_place b q) expression_words) refl (omega (arith, h)) (omega arith) length_small
        (unfold is_sign among in refl) (unfold is_sign among in refl) (λ rest. unfold shuts in refl) (λ z. item_opens (item_place b 0))
        (λ q z. one q (omega (arith, z, length_small)) (message_item el receives (message_place b) fit q z))

    reads_message : Reads el (message item b) (shown_message el b) anything (Span (message_place b) message_words)
    unfolding message shown_message
    reads_message =
        reads_wider region
        (reads_then (reads_number 0 (names - 1) (message_place b) (omega (arith, h)) (omega arith) (omega (arith, message_name_lem el receives (message_place b) fit)) (small (message_place b)))
        (reads_then reads_colon reads_tuple (λ rest k. unfold unequal shown_tuple in refl))
        (λ rest k. unfold may_follow is_word is_letter is_digit lies in refl))
      where
        region : (i : ℕ) → Span (message_place b) message_words i → Both (λ i. i ≡ message_place b) (Both Nowhere Tupled) i ⊎ (at el i ≡ 0)
        region i s = go (ℕ_discrete i (message_place b)) (ℕ_discrete i (length_place b)) (dec_lt i (item_place b (message_length el b)))
          where
            go : Dec (i ≡ message_place b) → Dec (i ≡ length_place b) → Dec (i < item_place b (message_length el b)) → Both (λ i. i ≡ message_place b) (Both Nowhere Tupled) i ⊎ (at el i ≡ 0)
            go (yes e) t u = inl (inl e)
            go (no n) (yes e) u = inl (inr (inr (inl e)))
            go (no n) (no m) (yes l) = inl (inr (inr (inr ((i - item_place b 0) / expression_words, omega (arith, n, m, l, s.0), (omega (arith, n, m, s.0), omega (arith, n, m, s.0))))))
            go (no n) (no m) (no l) = inr (message_none el receives (message_place b) fit i (omega (arith, l)) s.1)

  -- a template, and a message that is sent
  pub reads_template : (b receives : ℕ) → b < branches → message_fits receives (drop (message_place b) el) ≡ true → Reads el (message a_template_item b) (shown_message el b) anything (Span (message_place b) message_words)
  reads_template b receives h fit = reads_message a_template_item b receives h fit template_one
    where
      template_one : (j : ℕ) → j < values → item_fits receives (drop (item_place b j) el) ≡ true → Reads el (item_of (tuple a_template_item b) j) (shown_item (item_at el b j)) may_close (Span (item_place b j) expression_words)
      template_one j l f = unfold item_of if◌then◌or_else◌ in reads_item el small (item_place b j) (omega (arith, h, l)) receives f

  pub reads_output : (b : ℕ) → b < branches → message_fits 0 (drop (message_place b) el) ≡ true → Reads el (message a_message_item b) (shown_message el b) anything (Span (message_place b) message_words)
  reads_output b h fit = reads_message a_message_item b 0 h fit message_one
    where
      message_one : (j : ℕ) → j < values → item_fits 0 (drop (item_place b j) el) ≡ true → Reads el (item_of (tuple a_message_item b) j) (shown_item (item_at el b j)) may_close (Span (item_place b j) expression_words)
      message_one j l f = unfold item_of if◌then◌or_else◌ in reads_sent el small (item_place b j) (omega (arith, h, l)) f

  -- A BRANCH `(f,C)`, and branches
  pub reads_guarded : (b : ℕ) → b < branches → (1 ≤ exit_at el b) × (exit_at el b ≤ edges) → condition_fits 2 (condition_at el b) ≡ true
      → Reads el (guarded b) (shown_guarded el b) anything (Both (λ i. i ≡ edge_place exits_place b) (Span (condition_place b) expression_words))
  unfolding guarded shown_guarded
  reads_guarded b h r fit =
      reads_wider (λ i. ⊎_elim (λ z. inl (inr (inl z))) (λ z. inl (inr (inr (inr (inl z))))))
      (reads_text (ap (λ (w : List ℕ). 40 ∷ w) (sym (append_assoc (shown (exit_at el b)) (44 ∷ shown_condition (condition_at el b)) (41 ∷ []))))
      (reads_then (reads_sign 40 (unfold is_sign among in refl))
      (reads_then (reads_edge (edge_place exits_place b) (omega (arith, h)) r)
      (reads_then (reads_sign 44 comma)
      (reads_then (reads_condition el small (condition_place b) (omega (arith, h)) true 2 (λ _. refl) fit) (reads_sign 41 (unfold is_sign among in refl)) (λ rest k. unfold may_follow is_word is_letter is_digit lies in refl))
      (λ rest k. refl))
      (λ rest k. unfold may_follow is_word is_letter is_digit lies in refl))
      (λ rest k. refl)))

  module _ (fit : edges_fit 2 (drop exits_place el) ≡ true) (l : 2 ≤ at el exits_place) (m : at el exits_place ≤ branches) where
    -- a place of the exits: the count, an edge in use, or one that is not
    exit_place : (i : ℕ) → Span exits_place list_words i → (i ≡ exits_place) ⊎ ((q : ℕ) × (q < at el exits_place) × (i ≡ edge_place exits_place q)) ⊎ (at el i ≡ 0)
    exit_place i s = go (ℕ_discrete i exits_place) (dec_lt i (edge_place exits_place 0 + at el exits_place))
      where
        go : Dec (i ≡ exits_place) → Dec (i < edge_place exits_place 0 + at el exits_place) → (i ≡ exits_place) ⊎ ((q : ℕ) × (q < at el exits_place) × (i ≡ edge_place exits_place q)) ⊎ (at el i ≡ 0)
        go (yes e) t = inl e
        go (no n) (yes t) = inr (inl (i - edge_place exits_place 0, omega (arith, n, t, s.0), omega (arith, n, s.0)))
        go (no n) (no t) = inr (inr (edges_none el 2 exits_place fit i (omega (arith, t)) s.1))

    abbrev Some : ℕ → Type 0
    Some i = (i ≡ exits_place) ⊎ ((q : ℕ) × (q < at el exits_place) × Both (λ i. i ≡ edge_place exits_place q) (Span (condition_place q) expression_words) i)

    guarded_item : (conditions : things (drop (condition_place 0) el) expression_words branches (at el exits_place) (condition_fits 2) ≡ true) (q : ℕ) → q < at el exits_place
        → Reads el (item_of guarded_list q) (shown_guarded el q) may_close (Both (λ i. i ≡ edge_place exits_place q) (Span (condition_place q) expression_words))
    unfolding item_of if◌then◌or_else◌
    guarded_item c q z =
        reads_before (λ rest k. refl) (reads_guarded q (omega (arith, z, m)) (edge_range el 2 exits_place fit q z) (things_right el (condition_place 0) expression_words branches (at el exits_place) (condition_fits 2) c q z))

    pub reads_guarded_list : things (drop (condition_place 0) el) expression_words branches (at el exits_place) (condition_fits 2) ≡ true → Reads el (series guarded_list) (shown_guarded_list el) anything (Span exits_place (list_words + conditions_words))
    unfolding shown_guarded_list
    reads_guarded_list c =
        reads_wider region
        (reads_series el guarded_list (at el exits_place) (shown_guarded el) (λ q. Both (λ i. i ≡ edge_place exits_place q) (Span (condition_place q) expression_words)) refl (omega arith) l m
        (unfold is_sign among in refl) (unfold is_sign among in refl) (λ rest. unfold shuts in refl) (λ z. unfold shown_guarded opens is_sign among is_word is_letter is_digit lies in refl) (guarded_item c))
      where
        condition_place_lem : (i : ℕ) → Span (condition_place 0) conditions_words i → Dec (i < condition_place (at el exits_place)) → Some i ⊎ (at el i ≡ 0)
        condition_place_lem i s (yes t) = inl (inr ((i - condition_place 0) / expression_words, omega (arith, t, s.0), inr (omega (arith, s.0), omega (arith, s.0))))
        condition_place_lem i s (no t) = inr (things_none el (condition_place 0) expression_words branches (at el exits_place) (condition_fits 2) c i (omega (arith, t), omega (arith, t, m, s.1)))

        region : (i : ℕ) → Span exits_place (list_words + conditions_words) i → Some i ⊎ (at el i ≡ 0)
        region i s =
            ⊎_elim (λ a. ⊎_elim (λ z. inl (inl z)) (⊎_elim (λ z. inl (inr (z.0, z.1, inl z.2))) inr) (exit_place i a))
            (λ a. condition_place_lem i a (dec_lt i (condition_place (at el exits_place)))) (span_split exits_place list_words conditions_words i s)

    -- A BRANCH `(m:T,f)`, and branches
    abbrev Branch : ℕ → ℕ → Type 0
    Branch b = Both (Span (message_place b) message_words) (λ i. i ≡ edge_place exits_place b)

    reads_receiving : (receives b : ℕ) → b < at el exits_place → message_fits receives (drop (message_place b) el) ≡ true → Reads el (receiving b) (shown_receiving el b) anything (Branch b)
    unfolding receiving shown_receiving
    reads_receiving receives b z f =
        reads_wider (λ i. ⊎_elim (λ a. inl (inr (inl a))) (λ a. inl (inr (inr (inr (inl a))))))
        (reads_text (ap (λ (w : List ℕ). 40 ∷ w) (sym (append_assoc (shown_message el b) (44 ∷ shown (exit_at el b)) (41 ∷ []))))
        (reads_then (reads_sign 40 (unfold is_sign among in refl))
        (reads_then (reads_template b receives (omega (arith, z, m)) f)
        (reads_then (reads_sign 44 comma)
        (reads_then (reads_edge (edge_place exits_place b) (omega (arith, z, m)) (edge_range el 2 exits_place fit b z)) (reads_sign 41 (unfold is_sign among in refl)) (λ rest k. unfold may_follow is_word is_letter is_digit lies in refl))
        (λ rest k. refl))
        (λ rest k. refl))
        (λ rest k. refl)))

    pub reads_receiving_list : (receives : ℕ) → things (drop (message_place 0) el) message_words branches (at el exits_place) (message_fits receives) ≡ true
        → Reads el receiving_branches (shown_receiving_list el) shuts (Both (Span exits_place list_words) (Span (message_place 0) messages_words))
    unfolding receiving_branches shown_receiving_list
    reads_receiving_list receives c =
        reads_wider region
        (reads_commas el receiving (starts_sign 40) 2 exits_place (at el exits_place) (shown_receiving el) Branch refl (omega arith) l
        (λ q z. reads_before (λ rest k. refl) (reads_receiving receives q z (things_right el (message_place 0) message_words branches (at el exits_place) (message_fits receives) c q z))) 8 (omega (arith, l)) m)
      where
        message_place_lem : (i : ℕ) → Span (message_place 0) messages_words i → Dec (i < message_place (at el exits_place)) → ((i ≡ exits_place) ⊎ ((q : ℕ) × (0 ≤ q) × (q < at el exits_place) × Branch q i)) ⊎ (at el i ≡ 0)
        message_place_lem i s (yes t) = inl (inr ((i - message_place 0) / message_words, omega arith, omega (arith, t, s.0), inl (omega (arith, s.0), omega (arith, s.0))))
        message_place_lem i s (no t) = inr (things_none el (message_place 0) message_words branches (at el exits_place) (message_fits receives) c i (omega (arith, t), omega (arith, t, m, s.1)))

        region : (i : ℕ) → Both (Span exits_place list_words) (Span (message_place 0) messages_words) i → ((i ≡ exits_place) ⊎ ((q : ℕ) × (0 ≤ q) × (q < at el exits_place) × Branch q i)) ⊎ (at el i ≡ 0)
        region i =
            ⊎_elim (λ a. ⊎_elim (λ z. inl (inl z)) (⊎_elim (λ z. inl (inr (z.0, omega arith, z.1, inr z.2))) inr) (exit_place i a))
            (λ a. message_place_lem i a (dec_lt i (message_place (at el exits_place))))

  -- AN ASSIGNMENT, and assignments
  pub reads_assignment : (j : ℕ) → j < assignments → assignment_fits (assignment_at el j) ≡ true → Reads el (assignment j) (shown_assignment (assignment_at el j)) may_close (Span (assignment_place j) assignment_words)
  unfolding assignment shown_assignment
  reads_assignment j h fit =
      let f = assignment_ranges el (assignment_place j) fit in
      reads_wider (λ i s. inl (⊎_elim (λ a. inl (span_one (assignment_place j) i a)) (λ a. inr (inr a)) (span_split (assignment_place j) 1 5 i s)))
      (reads_text (ap (λ (k : ℕ). shown_field k ++ (58 ∷ 61 ∷ shown_expression (drop (assignment_place j + 1) el))) (sym first) ∙ ap (λ (x : List ℕ). shown_field (at (assignment_at el j) 0) ++ (58 ∷ 61 ∷ shown_expression x)) (sym (drop-drop 1 (assignment_place j) el)))
      (reads_then (reads_field (assignment_place j) (omega (arith, h)) f.0)
      (reads_then reads_assign (reads_expression el small (assignment_place j + 1) (omega (arith, h)) f.1) (λ rest k. refl))
      (λ rest k. unfold may_follow is_word is_letter is_digit lies in refl)))
    where
      first : at (assignment_at el j) 0 ≡ at el (assignment_place j)
      first = get_or-drop (assignment_place j) el 0 0 ∙ ap (at el) (let z : assignment_place j + 0 ≡ assignment_place j = omega arith in z)

  assignment-opens : (j : ℕ) → assignment_fits (assignment_at el j) ≡ true → opens 125 (shown_assignment (assignment_at el j)) ≡ true
  unfolding shown_assignment
  assignment-opens j fit =
      opens_on 125 (shown_field (at (assignment_at el j) 0)) (58 ∷ 61 ∷ shown_expression (drop 1 (assignment_at el j)))
      (worded_opens 125 (shown_field (at (assignment_at el j) 0)) (field_worded (at (assignment_at el j) 0) (rw get_or-drop (small (assignment_place j + 0)))))

  module _ (l : at el assignments_place ≤ assignments) (c : things (drop (assignment_place 0) el) assignment_words assignments (at el assignments_place) assignment_fits ≡ true) where
    assignment_item : (q : ℕ) → q < at el assignments_place → Reads el (item_of assignment_list q) (shown_assignment (assignment_at el q)) may_close (Span (assignment_place q) assignment_words)
    unfolding item_of if◌then◌or_else◌
    assignment_item q z = reads_assignment q (omega (arith, z, l)) (things_right el (assignment_place 0) assignment_words assignments (at el assignments_place) assignment_fits c q z)

    pub reads_assignments : Reads el (series assignment_list) (shown_assignments el) anything (Span assignments_place assignments_words)
    unfolding shown_assignments
    reads_assignments =
        reads_wider region
        (reads_series el assignment_list (at el assignments_place) (λ j. shown_assignment (assignment_at el j)) (λ q. Span (assignment_place q) assignment_words) refl (omega arith) (omega arith) l
        (unfold is_sign among in refl) (unfold is_sign among in refl) (λ rest. unfold shuts in refl)
        (λ z. assignment-opens 0 (things_right el (assignment_place 0) assignment_words assignments (at el assignments_place) assignment_fits c 0 z)) assignment_item)
      where
        region : (i : ℕ) → Span assignments_place assignments_words i → ((i ≡ assignments_place) ⊎ ((q : ℕ) × (q < at el assignments_place) × Span (assignment_place q) assignment_words i)) ⊎ (at el i ≡ 0)
        region i s = go (ℕ_discrete i assignments_place) (dec_lt i (assignment_place (at el assignments_place)))
          where
            go : Dec (i ≡ assignments_place) → Dec (i < assignment_place (at el assignments_place)) → ((i ≡ assignments_place) ⊎ ((q : ℕ) × (q < at el assignments_place) × Span (assignment_place q) assignment_words i)) ⊎ (at el i ≡ 0)
            go (yes e) t = inl (inl e)
            go (no n) (yes t) = inl (inr ((i - assignment_place 0) / assignment_words, omega (arith, n, t, s.0), (omega (arith, n, s.0), omega (arith, n, s.0))))
            go (no n) (no t) = inr (things_none el (assignment_place 0) assignment_words assignments (at el assignments_place) assignment_fits c i (omega (arith, t), omega (arith, t, l, s.1)))

    -- A TASK'S NUMBER, MODE, CONDITION AND ASSIGNMENTS
    pub reads_task : task_fits 1 el ≡ true → condition_fits 1 (drop (condition_place 0) el) ≡ true
        → Reads el task_part (shown_task el) anything (Both (λ i. i ≡ task_place) (Both (λ i. i ≡ mode_place) (Both (Span (condition_place 0) expression_words) (Span assignments_place assignments_words))))
    unfolding task_part shown_task
    reads_task t f =
        let r = task_ranges el t in
        reads_wider (λ i. ⊎_elim (λ a. inl (inl a)) (⊎_elim (λ a. inl (inr (inr (inl a)))) (⊎_elim (λ a. inl (inr (inr (inr (inr (inl a)))))) (λ a. inl (inr (inr (inr (inr (inr (inr a))))))))))
        (reads_then (reads_number 1 tasks task_place (omega arith) r.0 r.1 (small task_place))
        (reads_then (reads_sign 44 comma)
        (reads_then (reads_mode r.2 r.3)
        (reads_then (reads_sign 44 comma)
        (reads_then (reads_condition el small (condition_place 0) (omega arith) false 1 (λ z. absurd (omega (arith, z))) f)
        (reads_then (reads_sign 44 comma) reads_assignments (λ rest k. refl))
        (λ rest k. unfold may_follow is_word is_letter is_digit lies in refl))
        (λ rest k. refl))
        (λ rest k. unfold may_follow is_word is_letter is_digit lies in refl))
        (λ rest k. refl))
        (λ rest k. unfold may_follow is_word is_letter is_digit lies in refl))
