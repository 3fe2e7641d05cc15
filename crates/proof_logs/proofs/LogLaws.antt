-- WHAT THE JUDGE SAYS OF A LOG: a lawful one stays lawful when its last events are left out, and the event that 24 names is the first at fault. a and b are texts. Assumes nothing.
use Rattle.xml_skip.specs.Skipping.{Reached}
use Rattle.std.specs.Prelude.{Ok, Err}
use Prim.Native.Nat.{ℕ, ◌-◌, ◌<◌}
use mathlib.Core.Path.{◌≡◌, ◌∙◌, refl, sym, ap}
use mathlib.Core.Bool.{Bool, true, false}
use mathlib.Core.List.{List}
use native.Mathlib.Omega.{arith}
use lib.Dec.{eqb}
use borrow.Author.Tests.{eqb-true, eqb-false}
use lib.ListN.{length, take, drop, take-append-drop}
use Rattle.base_words.specs.Pick.{if◌then◌or_else◌}
use Rattle.state_fits.specs.Fresh.{fresh}
use Rattle.log_text.specs.Logs.{scan, lines_of}
use Rattle.log_judge.specs.declared.Judged.{Judged}
use Rattle.log_judge.specs.Judge.{line_taken, judgment, lawful, judged_by, judged_end, judged_from}
use Rattle.log_judge.proofs.Faults.{lawful_before, first_at_fault}
use Rattle.engine.specs.Engine.{asked_number, stepped, posted_to}
use Rattle.engine.specs.Calls.{judged_to}
use Rattle.engine.proofs.CallLaws.{by_asked}
use Rattle.proof_logs.proofs.OwnLog.{log_judged}

module _ (t : List ℕ) (v : ℕ) (a : List ℕ) where
  abbrev judged : List (List ℕ) → Judged
  judged ws = judged_by (line_taken (stepped t) (posted_to t)) ws 0 (fresh t v)

  -- what is not refused before its events are looked at is judged by its lines
  end_lines : (s : Reached) (j : Judged) (number beside own : ℕ) → (number ≡ 23 → ⊥) → judged_end s j ≡ judgment number beside own → j ≡ judgment number beside own
  unfolding judged_end
  end_lines (Ok q) j number beside own other e = e
  end_lines (Err q) j number beside own other e = absurd (other (sym (ap (λ (d : Judged). d.number) e)))

  pub by_lines : (number beside own : ℕ) → (number ≡ 10 → ⊥) → (number ≡ 25 → ⊥) → (number ≡ 23 → ⊥) → judged_to t v a ≡ judgment number beside own
      → (asked_number t v ≡ 0) × (judged (lines_of a) ≡ judgment number beside own)
  unfolding judged_to judged_from if◌then◌or_else◌
  by_lines number beside own bad version other e = go (eqb (asked_number t v) 0) refl e
    where
      asked : number ≡ asked_number t v → (asked_number t v ≡ 0 → ⊥) → ⊥
      asked d = by_asked (λ k. number ≡ k → (k ≡ 0 → ⊥) → ⊥) t v (λ h f. f refl) (λ h f. version h) (λ h f. bad h) d

      go : (r : Bool) → eqb (asked_number t v) 0 ≡ r
          → (if r then judged_end (scan a).end (judged (lines_of a)) or_else judgment (asked_number t v) 0 0) ≡ judgment number beside own
          → (asked_number t v ≡ 0) × (judged (lines_of a) ≡ judgment number beside own)
      go true f d = (eqb-true (asked_number t v) 0 f, end_lines (scan a).end (judged (lines_of a)) number beside own other d)
      go false f d = absurd (asked (sym (ap (λ (j : Judged). j.number) d)) (eqb-false (asked_number t v) 0 f))

  -- A BEGINNING of its events: k of them, in a log b of their own
  abbrev Begins : ℕ → List ℕ → Type 0
  Begins k b = (q : ℕ) × ((scan b).end ≡ Ok q) × (lines_of b ≡ take k (lines_of a))

  begun : (k : ℕ) → asked_number t v ≡ 0 → judged (take k (lines_of a)) ≡ lawful → (b : List ℕ) → Begins k b → judged_to t v b ≡ lawful
  begun k asked j b s = log_judged t v asked b s.0 s.1 ∙ ap judged s.2 ∙ j

  -- "a lawful log stays lawful when its last events are left out"
  pub beginning_lawful : judged_to t v a ≡ lawful → (k : ℕ) (b : List ℕ) → Begins k b → judged_to t v b ≡ lawful
  beginning_lawful e k =
      let l = by_lines 0 0 0 (λ h. omega (arith, h)) (λ h. omega (arith, h)) (λ h. omega (arith, h)) e in
      begun k l.0
      (lawful_before (line_taken (stepped t) (posted_to t)) (take k (lines_of a)) (drop k (lines_of a)) 0 (fresh t v) (ap judged (take-append-drop k (lines_of a)) ∙ l.1))

  -- "the event named by 24 is the first at fault (those before it are lawful by themselves)"
  pub first_fault : (k own : ℕ) → judged_to t v a ≡ judgment 24 k own → (k < length (lines_of a)) × ((b : List ℕ) → Begins k b → judged_to t v b ≡ lawful)
  first_fault k own e =
      let l = by_lines 24 k own (λ h. omega (arith, h)) (λ h. omega (arith, h)) (λ h. omega (arith, h)) e in
      let f = first_at_fault (line_taken (stepped t) (posted_to t)) (lines_of a) 0 (fresh t v) k own l.1 in
      let same : k - 0 ≡ k = omega arith in (
        omega (arith, f.1, same),
        begun k l.0 (ap (λ (j : ℕ). judged (take j (lines_of a))) (sym same) ∙ f.2),
      )
