-- The words that a part stores, part by part. Assumes nothing.
use Prim.Native.Char.{code}
use Prim.Native.Nat.{ℕ, ◌≤◌, ◌<◌}
use mathlib.Core.Path.{◌≡◌, refl}
use mathlib.Core.Bool.{Bool, true, false, ◌||◌}
use lib.Dec.{eqb, leb, ltb}
use borrow.Author.Tests.{le-leb, lt-ltb, eq-eqb}
use Rattle.std.proofs.lemmas.Bool.{or_left, or_right}
use Rattle.base_words.proofs.PickLaws.{and_true}
use Rattle.base_table.specs.Places.{task_place, mode_place, entries_place, exits_place, condition_place, message_place, assignments_place, element_words}
use Rattle.proof_roundtrip.specs.Trip.{spans, region_of}
use Rattle.base_words.specs.Pick.{if◌then◌or_else◌}

span_in : (from to i : ℕ) → from ≤ i → i < to → spans from to i ≡ true
unfolding spans
span_in from to i l u = and_true (leb from i) (ltb i to) (le-leb from i l) (lt-ltb i to u)

module _ (i : ℕ) where
  pub region_entry : entries_place ≤ i → i < exits_place → region_of (code "E") i ≡ true
  unfolding region_of if◌then◌or_else◌
  region_entry = span_in entries_place exits_place i

  pub region_entries : entries_place ≤ i → i < exits_place → region_of (code "F") i ≡ true
  unfolding region_of if◌then◌or_else◌
  region_entries = span_in entries_place exits_place i

  pub region_exit : exits_place ≤ i → i < condition_place 0 → region_of (code "X") i ≡ true
  unfolding region_of if◌then◌or_else◌
  region_exit = span_in exits_place (condition_place 0) i

  pub region_exits : exits_place ≤ i → i < condition_place 0 → region_of (code "Y") i ≡ true
  unfolding region_of if◌then◌or_else◌
  region_exits = span_in exits_place (condition_place 0) i

  pub region_guarded : exits_place ≤ i → i < message_place 0 → region_of (code "G") i ≡ true
  unfolding region_of if◌then◌or_else◌
  region_guarded = span_in exits_place (message_place 0) i

  pub region_receiving_exits : exits_place ≤ i → i < condition_place 0 → region_of (code "B") i ≡ true
  unfolding region_of if◌then◌or_else◌
  region_receiving_exits l u = or_left (spans exits_place (condition_place 0) i) _ (span_in exits_place (condition_place 0) i l u)

  pub region_receiving_messages : message_place 0 ≤ i → i < assignments_place → region_of (code "B") i ≡ true
  unfolding region_of if◌then◌or_else◌
  region_receiving_messages l u = or_right (spans exits_place (condition_place 0) i) _ (span_in (message_place 0) assignments_place i l u)

  pub region_template : message_place 0 ≤ i → i < message_place 1 → region_of (code "T") i ≡ true
  unfolding region_of if◌then◌or_else◌
  region_template = span_in (message_place 0) (message_place 1) i

  pub region_message : message_place 0 ≤ i → i < message_place 1 → region_of (code "S") i ≡ true
  unfolding region_of if◌then◌or_else◌
  region_message = span_in (message_place 0) (message_place 1) i

  pub region_number : i ≡ task_place → region_of (code "N") i ≡ true
  unfolding region_of if◌then◌or_else◌
  region_number e = or_left (eqb i task_place) _ (eq-eqb i task_place e)

  pub region_mode : i ≡ mode_place → region_of (code "N") i ≡ true
  unfolding region_of if◌then◌or_else◌
  region_mode e = or_right (eqb i task_place) _ (or_left (eqb i mode_place) _ (eq-eqb i mode_place e))

  pub region_guard : condition_place 0 ≤ i → i < condition_place 1 → region_of (code "N") i ≡ true
  unfolding region_of if◌then◌or_else◌
  region_guard l u =
      or_right (eqb i task_place) _ (or_right (eqb i mode_place) _ (or_left (spans (condition_place 0) (condition_place 1) i) _ (span_in (condition_place 0) (condition_place 1) i l u)))

  pub region_assignments : assignments_place ≤ i → i < element_words → region_of (code "N") i ≡ true
  unfolding region_of if◌then◌or_else◌
  region_assignments l u =
      or_right (eqb i task_place) _ (or_right (eqb i mode_place) _ (or_right (spans (condition_place 0) (condition_place 1) i) _ (span_in assignments_place element_words i l u)))
