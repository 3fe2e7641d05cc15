-- A part stored, by its code; and the parts of a row. Assumes nothing.
use Prim.Native.Char.{code}
use Prim.Native.Nat.{ℕ, ◌<◌}
use mathlib.Core.Path.{◌≡◌, refl, sym, subst}
use mathlib.Core.Bool.{Bool, true, false, ◌&&◌, false≢true}
use mathlib.Core.List.{List}
use mathlib.Core.Logic.{⊎_elim}
use native.Mathlib.Omega.{arith}
use lib.Dec.{eqb}
use lib.ListN.{drop}
use borrow.Author.Tests.{eqb-true}
use Rattle.base_words.specs.Counts.{branches, assignments}
use Rattle.base_words.specs.Pick.{if◌then◌or_else◌}
use Rattle.base_words.specs.Words.{at}
use Rattle.base_words.proofs.AllLaws.{and_left, and_right}
use Rattle.base_words.proofs.PickLaws.{and_true}
use Rattle.base_kinds.specs.declared.Kind.{Kind}
use Rattle.base_kinds.specs.Kinds.{none, one, many}
use Rattle.base_table.specs.Places.{entries_place, exits_place, condition_place, message_place, assignments_place, assignment_place, expression_words, message_words, assignment_words}
use Rattle.check_limits.specs.Limits.{things, edges_fit, task_fits, condition_fits, message_fits, assignment_fits}
use Rattle.text_readers.specs.Reading.{Reader, ◌then◌}
use Rattle.text_parts.specs.Parts.{part_of}
use Rattle.proof_roundtrip.specs.Trip.{region_of}
use Rattle.proof_roundtrip.proofs.NumberReads.{then_of, else_of}
use Rattle.proof_roundtrip.proofs.FitsLaws.{task_ranges}
use Rattle.proof_roundtrip.proofs.RegionLaws.{region_entry, region_entries, region_exit, region_exits, region_guarded, region_receiving_exits, region_receiving_messages, region_template, region_message, region_number, region_mode, region_guard, region_assignments}
use Rattle.proof_roundtrip.proofs.FillLaws.{Fills, fills_wider, fills_region}
use Rattle.proof_roundtrip.proofs.EdgeFills.{fills_one, fills_several}
use Rattle.proof_roundtrip.proofs.MessageFills.{fills_template, fills_output}
use Rattle.proof_roundtrip.proofs.BranchFills.{fills_guarded, fills_receiving}
use Rattle.proof_roundtrip.proofs.TaskFills.{Places, Tasked, fills_task, task_of}

-- what the row of a part says
unfoldable pub suits : Kind → ℕ → Bool
suits r c =
    if eqb c (code "E") then eqb r.entries one
    or_else if eqb c (code "X") then eqb r.exits one
    or_else if eqb c (code "F") then eqb r.entries many
    or_else if eqb c (code "Y") then eqb r.exits many
    or_else if eqb c (code "N") then eqb r.task one && eqb r.conditions one
    or_else if eqb c (code "T") then eqb r.receives one && eqb r.sends none
    or_else if eqb c (code "S") then eqb r.receives none && eqb r.sends one
    or_else if eqb c (code "G") then eqb r.exits many && eqb r.conditions many
    or_else eqb c (code "B") && (eqb r.exits many && (eqb r.receives many && eqb r.sends none))

-- when the words of a part are right
unfoldable pub good : Kind → ℕ → List ℕ → Bool
good r c y =
    if eqb c (code "E") then edges_fit one (drop entries_place y)
    or_else if eqb c (code "X") then edges_fit one (drop exits_place y)
    or_else if eqb c (code "F") then edges_fit many (drop entries_place y)
    or_else if eqb c (code "Y") then edges_fit many (drop exits_place y)
    or_else if eqb c (code "N") then task_fits one y && (condition_fits one (drop (condition_place 0) y) && things (drop (assignment_place 0) y) assignment_words assignments (at y assignments_place) assignment_fits)
    or_else if eqb c (code "T") then message_fits r.receives (drop (message_place 0) y)
    or_else if eqb c (code "S") then message_fits r.receives (drop (message_place 0) y)
    or_else if eqb c (code "G") then edges_fit many (drop exits_place y) && things (drop (condition_place 0) y) expression_words branches (at y exits_place) (condition_fits many)
    or_else edges_fit many (drop exits_place y) && things (drop (message_place 0) y) message_words branches (at y exits_place) (message_fits r.receives)

-- a Bool's region
pub test_region : (b : Bool) → Dec (b ≡ true)
test_region true = yes refl
test_region false = no false≢true

abbrev Stored : ℕ → ℕ → Type 0
Stored c i = region_of c i ≡ true

module _ (r : Kind) where
  abbrev Part : ℕ → Type 0
  Part c = Fills (part_of c) (Stored c) (λ y. good r c y ≡ true)

  region : (c i : ℕ) → Dec (Stored c i)
  region c i = test_region (region_of c i)

  entry_part : Part (code "E")
  unfolding part_of good if◌then◌or_else◌
  entry_part = fills_region (region (code "E")) (λ i s. region_entry i s.0 s.1) (fills_one entries_place (omega arith))

  exit_part : Part (code "X")
  unfolding part_of good if◌then◌or_else◌
  exit_part = fills_region (region (code "X")) (λ i s. region_exit i s.0 s.1) (fills_one exits_place (omega arith))

  entries_part : Part (code "F")
  unfolding part_of good if◌then◌or_else◌
  entries_part = fills_region (region (code "F")) (λ i s. region_entries i s.0 s.1) (fills_several entries_place (omega arith))

  exits_part : Part (code "Y")
  unfolding part_of good if◌then◌or_else◌
  exits_part = fills_region (region (code "Y")) (λ i s. region_exits i s.0 s.1) (fills_several exits_place (omega arith))

  template_part : (r.receives ≡ none → ⊥) → Part (code "T")
  unfolding part_of good if◌then◌or_else◌
  template_part n = fills_region (region (code "T")) (λ i s. region_template i s.0 s.1) (fills_template 0 r.receives (omega arith) n)

  output_part : Part (code "S")
  unfolding part_of good if◌then◌or_else◌
  output_part = fills_region (region (code "S")) (λ i s. region_message i s.0 s.1) (fills_output 0 r.receives (omega arith))

  -- of several things that are right
  both_fill : {f : Reader} {R S : ℕ → Type 0} (a b : List ℕ → Bool) → ((i : ℕ) → Dec (S i)) → ((i : ℕ) → R i → S i) → Fills f R (λ y. (a y ≡ true) × (b y ≡ true)) → Fills f S (λ y. a y && b y ≡ true)
  both_fill a b d w f =
      fills_wider d w
      (λ y z s h. let q = f.local y z (λ i r. s i (w i r)) (and_left (a y) (b y) h, and_right (a y) (b y) h) in and_true (a z) (b z) q.0 q.1)
      (λ y q z. and_true (a y) (b y) q.0 q.1) f

  guards_part : Part (code "G")
  unfolding part_of good if◌then◌or_else◌
  guards_part =
      both_fill (λ y. edges_fit many (drop exits_place y)) (λ y. things (drop (condition_place 0) y) expression_words branches (at y exits_place) (condition_fits many))
      (region (code "G")) (λ i s. region_guarded i s.0 s.1) fills_guarded

  receivers_part : (r.receives ≡ none → ⊥) → Part (code "B")
  unfolding part_of good if◌then◌or_else◌
  receivers_part n =
      both_fill (λ y. edges_fit many (drop exits_place y)) (λ y. things (drop (message_place 0) y) message_words branches (at y exits_place) (message_fits r.receives))
      (region (code "B")) (λ i. ⊎_elim (λ s. region_receiving_exits i s.0 s.1) (λ s. region_receiving_messages i s.0 s.1)) (fills_receiving r.receives n)

  abbrev guard : List ℕ → Bool
  guard y = condition_fits one (drop (condition_place 0) y)

  abbrev assigned : List ℕ → Bool
  assigned y = things (drop (assignment_place 0) y) assignment_words assignments (at y assignments_place) assignment_fits

  task_part : Part (code "N")
  unfolding part_of good if◌then◌or_else◌
  task_part = fills_wider (region (code "N")) inner (λ y z s h. give z (fills_task.local y z (λ i q. s i (inner i q)) (back y h))) (λ y q z. give y q) fills_task
    where
      inner : (i : ℕ) → Places i → Stored (code "N") i
      inner i = ⊎_elim (region_number i) (⊎_elim (region_mode i) (⊎_elim (λ s. region_guard i s.0 s.1) (λ s. region_assignments i s.0 s.1)))

      give : (y : List ℕ) → Tasked y → task_fits one y && (guard y && assigned y) ≡ true
      give y q = and_true (task_fits one y) (guard y && assigned y) (task_of y q) (and_true (guard y) (assigned y) q.1.1.0 q.1.1.1.1)

      back : (y : List ℕ) → task_fits one y && (guard y && assigned y) ≡ true → Tasked y
      back y h =
          let t = task_ranges y (and_left (task_fits one y) (guard y && assigned y) h) in
          let g = and_right (task_fits one y) (guard y && assigned y) h in
          ((t.0, t.1), ((t.2, t.3), (and_left (guard y) (assigned y) g, (t.4, and_right (guard y) (assigned y) g))))

  -- BY THE CODE
  by_if : {P : Type 0} (b x y : Bool) → (if b then x or_else y) ≡ true → (b ≡ true → x ≡ true → P) → (y ≡ true → P) → P
  by_if {P} b x y h f g = go b refl
    where
      go : (t : Bool) → b ≡ t → P
      go true e = f e (then_of b x y true h e)
      go false e = g (else_of b x y true h e)

  pub fills_part : (c : ℕ) → suits r c ≡ true → Fills (part_of c) (λ i. region_of c i ≡ true) (λ y. good r c y ≡ true)
  unfolding suits
  fills_part c h =
      by_if _ _ _ h (λ e x. is (code "E") e entry_part) (λ h.
      by_if _ _ _ h (λ e x. is (code "X") e exit_part) (λ h.
      by_if _ _ _ h (λ e x. is (code "F") e entries_part) (λ h.
      by_if _ _ _ h (λ e x. is (code "Y") e exits_part) (λ h.
      by_if _ _ _ h (λ e x. is (code "N") e task_part) (λ h.
      by_if _ _ _ h (λ e x. is (code "T") e (template_part (some one (and_left (eqb r.receives one) (eqb r.sends none) x) (omega arith)))) (λ h.
      by_if _ _ _ h (λ e x. is (code "S") e output_part) (λ h.
      by_if _ _ _ h (λ e x. is (code "G") e guards_part) (λ h.
      is (code "B") (and_left (eqb c (code "B")) _ h)
      (receivers_part (some many (and_left (eqb r.receives many) (eqb r.sends none) (and_right (eqb r.exits many) _ (and_right (eqb c (code "B")) _ h))) (omega arith)))))))))))
    where
      is : (d : ℕ) → eqb c d ≡ true → Part d → Part c
      is d e p = subst Part (sym (eqb-true c d e)) p

      some : (n : ℕ) → eqb r.receives n ≡ true → 0 < n → r.receives ≡ none → ⊥
      some n e l z = let q = eqb-true r.receives n e in omega (arith, q, l, z)
