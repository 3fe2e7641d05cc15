-- THE LAW OF A PART: what is written of an element that is within its limits is read back, part by part. Assumes nothing.
use Prim.Native.Char.{code}
use Prim.Native.Nat.{ℕ, ◌+◌, ◌<◌, ◌≤◌}
use mathlib.Core.Path.{◌≡◌, ◌∙◌, refl, sym, ap, subst}
use mathlib.Core.Bool.{true, not, ◌||◌}
use mathlib.Core.List.{List}
use mathlib.Core.Logic.{◌⊎◌, inl, inr, ⊎_elim}
use native.Mathlib.Omega.{arith}
use lib.Dec.{eqb, leb, ltb}
use lib.ListN.{drop}
use borrow.Author.Tests.{eqb-true, leb-true, ltb-true}
use Rattle.std.proofs.lemmas.Bool.{or_cases}
use Rattle.base_words.specs.Pick.{if◌then◌or_else◌}
use Rattle.base_words.specs.Counts.{branches}
use Rattle.base_words.specs.Words.{at, greatest}
use Rattle.base_words.proofs.AllLaws.{and_left, and_right}
use Rattle.base_kinds.specs.declared.Kind.{Kind}
use Rattle.base_kinds.specs.Kinds.{kind_of, used}
use Rattle.base_table.specs.Places.{expression_words, message_words, entries_place, exits_place, condition_place, message_place, assignments_place, task_place, mode_place, element_words}
use Rattle.base_table.specs.Table.{kind_in}
use Rattle.check_limits.specs.Limits.{things, edges_fit, task_fits, condition_fits, message_fits, parts_fit, element_fits}
use Rattle.text_parts.specs.Parts.{part_of}
use Rattle.write_shown.specs.Shown.{shown_part, shown_entries, shown_exits}
use Rattle.proof_roundtrip.specs.Trip.{may_close, behind_part, spans, region_of, Trip}
use Rattle.proof_roundtrip.proofs.ReadsLaws.{Both, anything, reads_before, trip_of}
use Rattle.proof_roundtrip.proofs.SignReads.{closes_stops, ends_shuts}
use Rattle.proof_roundtrip.proofs.NumberReads.{Span}
use Rattle.proof_roundtrip.proofs.FitsLaws.{things_right, edges_count, count_one, count_many, task_fits_lem, entries_fit, exits_fit, conditions_fit_lem, messages_fit_lem, assignments_fit_lem, task_ranges, used-one, used-many}
use Rattle.proof_roundtrip.proofs.PartReads.{list_words, conditions_words, messages_words, assignments_words, reads_one, reads_edges, reads_template, reads_output, reads_guarded_list, reads_receiving_list, reads_task}
use Rattle.proof_roundtrip.proofs.CodeLaws.{goes, Coded, entry, exit, entries, exits, task, template, output, guards, receivers, coded, parts_go}

-- a test of a region, as a proposition
spanned : (from to n i : ℕ) → from + n ≡ to → spans from to i ≡ true → Span from n i
unfolding spans
spanned from to n i e h =
    (leb-true from i (and_left (leb from i) (ltb i to) h), omega (arith, e, ltb-true i to (and_right (leb from i) (ltb i to) h)))

-- where nothing is asked of what follows, and where words end
any_closes : (rest : List ℕ) → may_close rest ≡ true → anything rest ≡ true
any_closes rest k = refl

module _ (el : List ℕ) (small : (i : ℕ) → at el i ≤ greatest) (k : Kind) (fit : parts_fit k el ≡ true) where
  -- what stands at the place of a list
  entries_as : (n : ℕ) → k.entries ≡ n → edges_fit n (drop entries_place el) ≡ true
  entries_as n e = subst (λ (c : ℕ). edges_fit c (drop entries_place el) ≡ true) e (entries_fit k el fit)

  exits_as : (n : ℕ) → k.exits ≡ n → edges_fit n (drop exits_place el) ≡ true
  exits_as n e = subst (λ (c : ℕ). edges_fit c (drop exits_place el) ≡ true) e (exits_fit k el fit)

  conditions_as : (n : ℕ) → k.conditions ≡ n → things (drop (condition_place 0) el) expression_words branches (used n (at el exits_place)) (condition_fits n) ≡ true
  conditions_as n e = subst (λ (c : ℕ). things (drop (condition_place 0) el) expression_words branches (used c (at el exits_place)) (condition_fits c) ≡ true) e (conditions_fit_lem k el fit)

  messages_as : (n : ℕ) → k.receives + k.sends ≡ n → things (drop (message_place 0) el) message_words branches (used n (at el exits_place)) (message_fits k.receives) ≡ true
  messages_as n e = subst (λ (c : ℕ). things (drop (message_place 0) el) message_words branches (used c (at el exits_place)) (message_fits k.receives) ≡ true) e (messages_fit_lem k el fit)

  message_first : k.receives + k.sends ≡ 1 → message_fits k.receives (drop (message_place 0) el) ≡ true
  message_first e =
      things_right el (message_place 0) message_words branches 1 (message_fits k.receives)
      (ap (λ (n : ℕ). things (drop (message_place 0) el) message_words branches n (message_fits k.receives)) (sym (used-one (at el exits_place))) ∙ messages_as 1 e) 0 (omega arith)

  condition_first : k.conditions ≡ 1 → condition_fits 1 (drop (condition_place 0) el) ≡ true
  condition_first e =
      things_right el (condition_place 0) expression_words branches 1 (condition_fits 1)
      (ap (λ (n : ℕ). things (drop (condition_place 0) el) expression_words branches n (condition_fits 1)) (sym (used-one (at el exits_place))) ∙ conditions_as 1 e) 0 (omega arith)

  -- one trip for each code
  abbrev PartTrip : ℕ → Type 0
  PartTrip c = Trip el (part_of c) (shown_part c el) (behind_part c) (region_of c)

  entry_trip : k.entries ≡ 1 → PartTrip (code "E")
  unfolding part_of shown_part behind_part region_of if◌then◌or_else◌
  entry_trip e =
      let f = entries_as 1 e in
      trip_of (λ i h. inl (spanned entries_place exits_place list_words i refl h))
      (reads_before closes_stops (reads_one el small entries_place (omega arith) 1 f (count_one (at el entries_place) (edges_count el 1 entries_place f))))

  exit_trip : k.exits ≡ 1 → PartTrip (code "X")
  unfolding part_of shown_part behind_part region_of if◌then◌or_else◌
  exit_trip e =
      let f = exits_as 1 e in
      trip_of (λ i h. inl (spanned exits_place (condition_place 0) list_words i refl h))
      (reads_before closes_stops (reads_one el small exits_place (omega arith) 1 f (count_one (at el exits_place) (edges_count el 1 exits_place f))))

  entries_trip : k.entries ≡ 2 → PartTrip (code "F")
  unfolding part_of shown_part behind_part region_of if◌then◌or_else◌ shown_entries
  entries_trip e =
      let f = entries_as 2 e in
      let c = count_many (at el entries_place) (edges_count el 2 entries_place f) in
      trip_of (λ i h. inl (spanned entries_place exits_place list_words i refl h)) (reads_before any_closes (reads_edges el small entries_place (omega arith) 2 f c.0 c.1))

  exits_trip : k.exits ≡ 2 → PartTrip (code "Y")
  unfolding part_of shown_part behind_part region_of if◌then◌or_else◌ shown_exits
  exits_trip e =
      let f = exits_as 2 e in
      let c = count_many (at el exits_place) (edges_count el 2 exits_place f) in
      trip_of (λ i h. inl (spanned exits_place (condition_place 0) list_words i refl h)) (reads_before any_closes (reads_edges el small exits_place (omega arith) 2 f c.0 c.1))

  task_trip : k.task ≡ 1 → k.conditions ≡ 1 → PartTrip (code "N")
  unfolding part_of shown_part behind_part region_of if◌then◌or_else◌
  task_trip e c =
      let t : task_fits 1 el ≡ true = subst (λ (n : ℕ). task_fits n el ≡ true) e (task_fits_lem k el fit) in
      trip_of region (reads_before any_closes (reads_task el small (task_ranges el t).4 (assignments_fit_lem k el fit) t (condition_first c)))
    where
      region : (i : ℕ) → eqb i task_place || (eqb i mode_place || (spans (condition_place 0) (condition_place 1) i || spans assignments_place element_words i)) ≡ true
          → Both (λ i. i ≡ task_place) (Both (λ i. i ≡ mode_place) (Both (Span (condition_place 0) expression_words) (Span assignments_place assignments_words))) i ⊎ (at el i ≡ 0)
      region i h =
          inl (⊎_elim (λ a. inl (eqb-true i task_place a)) (λ a. inr (⊎_elim (λ b. inl (eqb-true i mode_place b)) (λ b. inr (⊎_elim (λ d. inl (spanned (condition_place 0) (condition_place 1) expression_words i refl d)) (λ d. inr (spanned assignments_place element_words assignments_words i refl d)) (or_cases _ _ b))) (or_cases _ _ a))) (or_cases _ _ h))

  template_trip : k.receives + k.sends ≡ 1 → PartTrip (code "T")
  unfolding part_of shown_part behind_part region_of if◌then◌or_else◌
  template_trip e =
      trip_of (λ i h. inl (spanned (message_place 0) (message_place 1) message_words i refl h)) (reads_before any_closes (reads_template el small 0 k.receives (omega arith) (message_first e)))

  output_trip : k.receives ≡ 0 → k.sends ≡ 1 → PartTrip (code "S")
  unfolding part_of shown_part behind_part region_of if◌then◌or_else◌
  output_trip e s =
      trip_of (λ i h. inl (spanned (message_place 0) (message_place 1) message_words i refl h))
      (reads_before any_closes (reads_output el small 0 (omega arith)
      (subst (λ (n : ℕ). message_fits n (drop (message_place 0) el) ≡ true) e (message_first (omega (arith, e, s))))))

  guards_trip : k.exits ≡ 2 → k.conditions ≡ 2 → PartTrip (code "G")
  unfolding part_of shown_part behind_part region_of if◌then◌or_else◌
  guards_trip e c =
      let f = exits_as 2 e in
      let n = count_many (at el exits_place) (edges_count el 2 exits_place f) in
      trip_of (λ i h. inl (spanned exits_place (message_place 0) (list_words + conditions_words) i refl h))
      (reads_before any_closes (reads_guarded_list el small f n.0 n.1
      (ap (λ (m : ℕ). things (drop (condition_place 0) el) expression_words branches m (condition_fits 2)) (sym (used-many (at el exits_place))) ∙ conditions_as 2 c)))

  receivers_trip : k.exits ≡ 2 → k.receives + k.sends ≡ 2 → PartTrip (code "B")
  unfolding part_of shown_part behind_part region_of if◌then◌or_else◌
  receivers_trip e c =
      let f = exits_as 2 e in
      let n = count_many (at el exits_place) (edges_count el 2 exits_place f) in
      trip_of (λ i h. inl (⊎_elim (λ a. inl (spanned exits_place (condition_place 0) list_words i refl a)) (λ a. inr (spanned (message_place 0) assignments_place messages_words i refl a)) (or_cases _ _ h)))
      (reads_before ends_shuts (reads_receiving_list el small f n.0 n.1 k.receives
      (ap (λ (m : ℕ). things (drop (message_place 0) el) message_words branches m (message_fits k.receives)) (sym (used-many (at el exits_place))) ∙ messages_as 2 c)))

  pub coded_trip : {c : ℕ} → Coded k c → PartTrip c
  coded_trip (entry e) = entry_trip e
  coded_trip (exit e) = exit_trip e
  coded_trip (entries e) = entries_trip e
  coded_trip (exits e) = exits_trip e
  coded_trip (task e c) = task_trip e c
  coded_trip (template e) = template_trip e
  coded_trip (output e s) = output_trip e s
  coded_trip (guards e c) = guards_trip e c
  coded_trip (receivers e c) = receivers_trip e c

-- THE LAW, by the place of the code in the row of the element's kind
pub part_trip : (el : List ℕ) → ((i : ℕ) → at el i ≤ greatest) → element_fits el ≡ true → (c i : ℕ) → i < 4 → c ≡ at (kind_of (kind_in el)).parts i → (c ≡ code " " → ⊥)
    → Trip el (part_of c) (shown_part c el) (behind_part c) (region_of c)
unfolding element_fits
part_trip el small fit c i l e n =
    coded_trip el small (kind_of (kind_in el)) (and_right (not (eqb (kind_of (kind_in el)).letters 0)) (parts_fit (kind_of (kind_in el)) el) fit)
    (coded (kind_of (kind_in el)) c (ap (goes (kind_of (kind_in el))) e ∙ parts_go (kind_in el) i l (λ q. n (e ∙ q))))
