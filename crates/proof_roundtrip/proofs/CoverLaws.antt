-- Each word of an element but its kind is stored by a part of its row, or is 0. Assumes nothing.
use Prim.Native.Char.{code}
use Prim.Native.Nat.{ℕ, ◌≤◌, ◌<◌}
use mathlib.Core.Path.{◌≡◌, ◌∙◌, ap}
use mathlib.Core.Bool.{true}
use mathlib.Core.List.{List}
use mathlib.Core.Logic.{◌⊎◌, inl, inr, ⊎_elim}
use native.Mathlib.Decide.{dec_lt}
use native.Mathlib.Omega.{arith}
use Rattle.base_words.specs.Words.{at}
use Rattle.base_kinds.specs.Kinds.{kind_of}
use Rattle.base_table.specs.Places.{kind_place, task_place, mode_place, entries_place, exits_place, condition_place, message_place, assignments_place, element_words}
use Rattle.base_table.specs.Table.{kind_in}
use Rattle.check_limits.specs.Limits.{parts_fit, element_fits}
use Rattle.proof_roundtrip.specs.Trip.{region_of}
use Rattle.proof_roundtrip.proofs.KindLaws.{kind_bounds}
use Rattle.proof_roundtrip.proofs.RowLaws.{Has, row_task, row_entries, row_exits, row_condition, row_conditions, row_message, row_messages}
use Rattle.proof_roundtrip.proofs.FitLaws.{fits_kind, fits_parts, no_task_number, no_mode, no_assignments, no_entries, no_exits, no_condition, no_conditions, no_message, no_messages}
use Rattle.proof_roundtrip.proofs.PartsReads.{Stored}
use Rattle.proof_roundtrip.proofs.RegionLaws.{region_entry, region_entries, region_exit, region_exits, region_guarded, region_receiving_exits, region_receiving_messages, region_template, region_message, region_number, region_mode, region_guard, region_assignments}

abbrev pub Covered : List ℕ → ℕ → Type 0
Covered el i = Stored (kind_of (kind_in el)).parts i ⊎ (at el i ≡ 0)

stored : (k i c : ℕ) → Has k c → region_of c i ≡ true → Stored (kind_of k).parts i
stored k i c h r = record { part = c; has = h; region = r }

module _ (el : List ℕ) (h : element_fits el ≡ true) (i : ℕ) where
  low : 0 < kind_in el
  low = (kind_bounds (kind_in el) (fits_kind el h)).0

  high : kind_in el < 16
  high = (kind_bounds (kind_in el) (fits_kind el h)).1

  f : parts_fit (kind_of (kind_in el)) el ≡ true
  f = fits_parts el h

  cover_number : i ≡ task_place → Covered el i
  cover_number e =
      ⊎_elim (λ c. inl (stored (kind_in el) i (code "N") c (region_number i e))) (λ z. inr (ap (at el) e ∙ no_task_number (kind_of (kind_in el)) el f z))
      (row_task (kind_in el) low high)

  cover_mode : i ≡ mode_place → Covered el i
  cover_mode e =
      ⊎_elim (λ c. inl (stored (kind_in el) i (code "N") c (region_mode i e))) (λ z. inr (ap (at el) e ∙ no_mode (kind_of (kind_in el)) el f z))
      (row_task (kind_in el) low high)

  cover_entries : entries_place ≤ i → i < exits_place → Covered el i
  cover_entries l u =
      ⊎_elim (λ c. inl (stored (kind_in el) i (code "E") c (region_entry i l u)))
      (⊎_elim (λ c. inl (stored (kind_in el) i (code "F") c (region_entries i l u))) (λ z. inr (no_entries (kind_of (kind_in el)) el f z i l u)))
      (row_entries (kind_in el) low high)

  cover_exits : exits_place ≤ i → i < condition_place 0 → Covered el i
  cover_exits l u =
      ⊎_elim (λ c. inl (stored (kind_in el) i (code "X") c (region_exit i l u)))
      (⊎_elim (λ c. inl (stored (kind_in el) i (code "Y") c (region_exits i l u)))
      (⊎_elim (λ c. inl (stored (kind_in el) i (code "G") c (region_guarded i l (omega (arith, u)))))
      (⊎_elim (λ c. inl (stored (kind_in el) i (code "B") c (region_receiving_exits i l u))) (λ z. inr (no_exits (kind_of (kind_in el)) el f z i l u)))))
      (row_exits (kind_in el) low high)

  cover_condition : condition_place 0 ≤ i → i < condition_place 1 → Covered el i
  cover_condition l u =
      ⊎_elim (λ c. inl (stored (kind_in el) i (code "N") c (region_guard i l u)))
      (⊎_elim (λ c. inl (stored (kind_in el) i (code "G") c (region_guarded i (omega (arith, l)) (omega (arith, u))))) (λ z. inr (no_condition (kind_of (kind_in el)) el f z i l (omega (arith, u)))))
      (row_condition (kind_in el) low high)

  cover_conditions : condition_place 1 ≤ i → i < message_place 0 → Covered el i
  cover_conditions l u =
      ⊎_elim (λ c. inl (stored (kind_in el) i (code "G") c (region_guarded i (omega (arith, l)) u))) (λ z. inr (no_conditions (kind_of (kind_in el)) el f z i l u))
      (row_conditions (kind_in el) low high)

  cover_message : message_place 0 ≤ i → i < message_place 1 → Covered el i
  cover_message l u =
      ⊎_elim (λ c. inl (stored (kind_in el) i (code "T") c (region_template i l u)))
      (⊎_elim (λ c. inl (stored (kind_in el) i (code "S") c (region_message i l u)))
      (⊎_elim (λ c. inl (stored (kind_in el) i (code "B") c (region_receiving_messages i l (omega (arith, u))))) (λ z. inr (no_message (kind_of (kind_in el)) el f z i l (omega (arith, u))))))
      (row_message (kind_in el) low high)

  cover_messages : message_place 1 ≤ i → i < assignments_place → Covered el i
  cover_messages l u =
      ⊎_elim (λ c. inl (stored (kind_in el) i (code "B") c (region_receiving_messages i (omega (arith, l)) u))) (λ z. inr (no_messages (kind_of (kind_in el)) el f z i l u))
      (row_messages (kind_in el) low high)

  cover_assignments : assignments_place ≤ i → i < element_words → Covered el i
  cover_assignments l u =
      ⊎_elim (λ c. inl (stored (kind_in el) i (code "N") c (region_assignments i l u))) (λ z. inr (no_assignments (kind_of (kind_in el)) el f z i l u))
      (row_task (kind_in el) low high)

  -- THE LAW
  pub covered : (i ≡ kind_place → ⊥) → i < element_words → Covered el i
  covered n u =
      by (dec_lt i mode_place) (λ l. cover_number (omega (arith, n, l)))
      (λ l. by (dec_lt i entries_place) (λ m. cover_mode (omega (arith, l, m)))
      (λ l. by (dec_lt i exits_place) (cover_entries (omega (arith, l)))
      (λ l. by (dec_lt i (condition_place 0)) (cover_exits (omega (arith, l)))
      (λ l. by (dec_lt i (condition_place 1)) (cover_condition (omega (arith, l)))
      (λ l. by (dec_lt i (message_place 0)) (cover_conditions (omega (arith, l)))
      (λ l. by (dec_lt i (message_place 1)) (cover_message (omega (arith, l)))
      (λ l. by (dec_lt i assignments_place) (cover_messages (omega (arith, l)))
      (λ l. cover_assignments (omega (arith, l)) u))))))))
    where
      by : {P Q : Type 0} → Dec P → (P → Q) → ((P → ⊥) → Q) → Q
      by (yes p) f g = f p
      by (no p) f g = g p
