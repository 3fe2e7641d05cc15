-- A task's number, mode, guard and assignments stored. Assumes nothing.
use Prim.Native.Char.{code}
use Prim.Native.Nat.{ℕ, ◌-◌, ◌/◌, ◌≤◌, ◌<◌}
use mathlib.Core.Path.{◌≡◌, ◌∙◌, refl, ap}
use mathlib.Core.Bool.{true, false, ◌&&◌, false≢true}
use mathlib.Core.List.{List}
use mathlib.Core.Logic.{⊎_elim}
use native.Mathlib.Omega.{arith}
use lib.Dec.{leb}
use lib.ListN.{drop}
use borrow.Author.Tests.{le-leb}
use Rattle.base_words.specs.Counts.{tasks, assignments}
use Rattle.base_words.specs.Pick.{if◌then◌or_else◌}
use Rattle.base_words.specs.Words.{at, greatest}
use Rattle.base_words.proofs.PickLaws.{and_true}
use Rattle.base_kinds.specs.Kinds.{one}
use Rattle.base_kinds.specs.Moves.{a, na_nc}
use Rattle.base_table.specs.Places.{element_words, task_place, mode_place, condition_place, assignments_place, assignment_place, assignment_words}
use Rattle.check_limits.specs.Limits.{within, things, task_fits, condition_fits, assignment_fits}
use Rattle.text_readers.specs.Reading.{Reader}
use Rattle.text_parts.specs.Parts.{assignment_list, item_of, starts, series, task_part}
use Rattle.proof_roundtrip.proofs.ReadsLaws.{Both}
use Rattle.proof_roundtrip.proofs.NumberReads.{Span}
use Rattle.check_limits.proofs.SameLaws.{things_same, assignment_same}
use Rattle.proof_roundtrip.proofs.FillLaws.{Fills, span_region, idle_sign, fills_then, fills_behind, fills_wider}
use Rattle.proof_roundtrip.proofs.WordFills.{Ranged, fills_number, fills_mode}
use Rattle.proof_roundtrip.proofs.ExpressionFills.{tail_same, fills_condition, fills_assignment}
use Rattle.proof_roundtrip.proofs.ListFills.{things_of, Region, Many, region_cases, fills_all, fills_empty, fills_series}

in_words : assignments_place < element_words
in_words = omega arith

few : assignments ≤ greatest
few = omega arith

-- ASSIGNMENTS
abbrev pub Assigned : List ℕ → Type 0
Assigned y = (at y assignments_place ≤ assignments) × (things (drop (assignment_place 0) y) assignment_words assignments (at y assignments_place) assignment_fits ≡ true)

assigned_local : (y z : List ℕ) → ((i : ℕ) → Span assignments_place 25 i → at z i ≡ at y i) → Assigned y → Assigned z
assigned_local y z s g =
    let e : at z assignments_place ≡ at y assignments_place = s assignments_place (omega arith, omega arith) in (
      omega (arith, e, g.0),
      ap (λ (n : ℕ). things (drop (assignment_place 0) z) assignment_words assignments n assignment_fits) e
          ∙ things_same (drop (assignment_place 0) y) (drop (assignment_place 0) z) assignment_words assignments (at y assignments_place) 24 assignment_fits (λ j l. omega (arith, l, g.0)) (omega (arith, g.0))
          (λ c d e. assignment_same c d e) (tail_same y z (assignment_place 0) 24 (λ i r. s i (omega (arith, r.0), omega (arith, r.1))))
          ∙ g.1,
    )

abbrev Place : ℕ → ℕ → Type 0
Place j = Span (assignment_place j) 6

abbrev Right : ℕ → List ℕ → Type 0
Right j y = assignment_fits (drop (assignment_place j) y) ≡ true

each_assignment : (j : ℕ) → j < assignments → Fills (item_of assignment_list j) (Place j) (Right j)
unfolding item_of if◌then◌or_else◌
each_assignment j l = fills_assignment j l

assignments_apart : (j k i : ℕ) → j < k → k < assignments → Place j i → Place k i → ⊥
assignments_apart j k i l u s t = omega (arith, l, s.1, t.0)

assignments_outside : (j : ℕ) → j < assignments → Place j assignments_place → ⊥
assignments_outside j l s = omega (arith, s.0)

wider : {f : Reader} → Fills f (Region (item_of assignment_list) (starts (code "A")) 0 assignments_place assignments Place Right each_assignment assignments_apart assignments_outside in_words few 0 assignments) (Many (item_of assignment_list) (starts (code "A")) 0 assignments_place assignments Place Right each_assignment assignments_apart assignments_outside in_words few 0 0 assignments) → Fills f (Span assignments_place 25) Assigned
wider a =
    fills_wider (span_region assignments_place 25)
    (λ i r. ⊎_elim (λ e. (omega (arith, e), omega (arith, e))) (λ m. (omega (arith, m.3.0), omega (arith, m.3.1, m.2))) (region_cases (item_of assignment_list) (starts (code "A")) 0 assignments_place assignments Place Right each_assignment assignments_apart assignments_outside in_words few assignments 0 i r))
    assigned_local
    (λ y m z. (
      omega (arith, m.counts, m.most),
      ap (λ (n : ℕ). things (drop (assignment_place 0) y) assignment_words assignments n assignment_fits) m.counts
          ∙ things_of y (assignment_place 0) assignment_words assignments m.number assignment_fits (λ j l. m.right j (omega arith) l)
          (λ i s. m.rest ((i - assignment_place 0) / 6) (omega (arith, s.0)) (omega (arith, s.0, s.1, m.most)) i (omega (arith, s.0), omega (arith, s.0))),
    ))
    a

fills_assignments : Fills (series assignment_list) (Span assignments_place 25) Assigned
fills_assignments = fills_series assignment_list (wider (fills_all (item_of assignment_list) (starts (code "A")) 0 assignments_place assignments Place Right each_assignment assignments_apart assignments_outside in_words few)) (λ e. wider (fills_empty (item_of assignment_list) (starts (code "A")) 0 assignments_place assignments Place Right each_assignment assignments_apart assignments_outside in_words few refl))

-- A TASK
abbrev pub Tasked : List ℕ → Type 0
Tasked y = Ranged 1 tasks task_place y × (Ranged 1 3 mode_place y × ((condition_fits one (drop (condition_place 0) y) ≡ true) × Assigned y))

abbrev pub Places : ℕ → Type 0
Places = Both (λ i. i ≡ task_place) (Both (λ i. i ≡ mode_place) (Both (Span (condition_place 0) 5) (Span assignments_place 25)))

pub fills_task : Fills task_part Places Tasked
unfolding task_part
fills_task =
    fills_then (fills_number 1 tasks task_place (omega arith) (omega arith))
    (fills_behind (idle_sign (code ","))
    (fills_then fills_mode
    (fills_behind (idle_sign (code ","))
    (fills_then (fills_condition (condition_place 0) (omega arith) one false (λ e. absurd (false≢true e))) (fills_behind (idle_sign (code ",")) fills_assignments) (λ i s t. omega (arith, s.1, t.0))))
    (λ i e. ⊎_elim (λ s. omega (arith, e, s.0)) (λ s. omega (arith, e, s.0)))))
    (λ i e. ⊎_elim (λ f. omega (arith, e, f)) (⊎_elim (λ s. omega (arith, e, s.0)) (λ s. omega (arith, e, s.0))))

pub task_of : (y : List ℕ) → Tasked y → task_fits one y ≡ true
unfolding task_fits if◌then◌or_else◌
task_of y t =
    and_true (within 1 tasks (at y task_place) && within a na_nc (at y mode_place)) (leb (at y assignments_place) assignments)
    (and_true (within 1 tasks (at y task_place)) (within a na_nc (at y mode_place))
    (and_true (leb 1 (at y task_place)) (leb (at y task_place) tasks) (le-leb 1 (at y task_place) t.0.0) (le-leb (at y task_place) tasks t.0.1))
    (and_true (leb 1 (at y mode_place)) (leb (at y mode_place) 3) (le-leb 1 (at y mode_place) t.1.0.0) (le-leb (at y mode_place) 3 t.1.0.1)))
    (le-leb (at y assignments_place) assignments t.1.1.1.0)
