-- REPLAYING ONE LOG AND RESUMING WITH ANOTHER is replaying both. t is a table; a, b and c are logs, c with the lines of a and then those of b. Assumes nothing.
use Prim.Native.Nat.{ℕ, ◌+◌}
use mathlib.Core.Path.{◌≡◌, ◌∙◌, refl, sym, ap, subst}
use mathlib.Core.Bool.{Bool, true, false}
use mathlib.Core.List.{List, [], ◌∷◌, ◌++◌}
use native.Mathlib.Omega.{arith}
use lib.Dec.{eqb}
use lib.ListN.{length}
use borrow.Author.Tests.{eqb-true, eqb-false, ne_eqb}
use Rattle.base_words.specs.Pick.{if◌then◌or_else◌}
use Rattle.state_fits.specs.Fresh.{fresh}
use Rattle.proof_steps.proofs.Choices.{by_test, by_choice}
use Rattle.log_text.specs.Logs.{scan, lines_of}
use Rattle.log_judge.specs.declared.Judged.{Judged}
use Rattle.log_judge.specs.Judge.{Taking, judgment, lawful, judged_by, judged_end, judged_from, left_by_lines}
use Rattle.engine.specs.Engine.{asked_number, fitting}
use Rattle.engine.specs.Calls.{Valid, judged_to}
use Rattle.engine.specs.Replay.{Replayed, kept_by, left_to, replayed_to, resumed_to}
use Rattle.engine.proofs.KeepsValid.{fresh-valid}
use Rattle.proof_demands.proofs.Replays.{kept_answer, kept_left, kept_lent, replay_answer, replay_left, replay_valid, resume_fitting, resume_valid}
use Rattle.proof_logs.proofs.OwnLog.{log_judged}
use Rattle.proof_logs.proofs.LogLaws.{by_lines}
use Rattle.proof_repair.proofs.Repairs.{IsLog}
use Rattle.proof_replay.specs.Lines.{later}
use Rattle.proof_replay.proofs.LineLaws.{take}

-- BY ANY WAY to take a line
module _ (give : List ℕ → List ℕ → Taking) where
  -- lines behind lawful ones, and behind ones with a fault
  pub judged_both : (xs ys : List (List ℕ)) (k : ℕ) (z : List ℕ) → judged_by give xs k z ≡ lawful → judged_by give (xs ++ ys) k z ≡ judged_by give ys (k + length xs) (left_by_lines give xs z)
  unfolding judged_by left_by_lines if◌then◌or_else◌
  judged_both [] ys k z h = ap (λ (n : ℕ). judged_by give ys n z) (let e : k ≡ k + 0 = omega arith in e)
  judged_both (w ∷ xs) ys k z h = go (eqb (give w z).number 0) (give w z).right (judged_both xs ys (k + 1) (give w z).state) h
    where
      go : (a b : Bool)
          → (judged_by give xs (k + 1) (give w z).state ≡ lawful → judged_by give (xs ++ ys) (k + 1) (give w z).state ≡ judged_by give ys (k + 1 + length xs) (left_by_lines give xs (give w z).state))
          → (if a then if b then judged_by give xs (k + 1) (give w z).state or_else judgment 24 k 0 or_else judgment 24 k (give w z).number) ≡ lawful
          → (if a then if b then judged_by give (xs ++ ys) (k + 1) (give w z).state or_else judgment 24 k 0 or_else judgment 24 k (give w z).number) ≡ judged_by give ys (k + length (w ∷ xs)) (left_by_lines give xs (give w z).state)
      go true true on e =
          on e
          ∙ ap (λ (n : ℕ). judged_by give ys n (left_by_lines give xs (give w z).state)) (let p : k + 1 + length xs ≡ k + length (w ∷ xs) = omega arith in p)
      go true false on e = absurd (omega (arith, ap (λ (j : Judged). j.number) e))
      go false b on e = absurd (omega (arith, ap (λ (j : Judged). j.number) e))

  pub fault_both : (xs ys : List (List ℕ)) (k : ℕ) (z : List ℕ) (j own : ℕ) → judged_by give xs k z ≡ judgment 24 j own → judged_by give (xs ++ ys) k z ≡ judgment 24 j own
  unfolding judged_by if◌then◌or_else◌
  fault_both [] ys k z j own h = absurd (omega (arith, ap (λ (d : Judged). d.number) h))
  fault_both (w ∷ xs) ys k z j own h = go (eqb (give w z).number 0) (give w z).right (fault_both xs ys (k + 1) (give w z).state j own) h
    where
      go : (a b : Bool)
          → (judged_by give xs (k + 1) (give w z).state ≡ judgment 24 j own → judged_by give (xs ++ ys) (k + 1) (give w z).state ≡ judgment 24 j own)
          → (if a then if b then judged_by give xs (k + 1) (give w z).state or_else judgment 24 k 0 or_else judgment 24 k (give w z).number) ≡ judgment 24 j own
          → (if a then if b then judged_by give (xs ++ ys) (k + 1) (give w z).state or_else judgment 24 k 0 or_else judgment 24 k (give w z).number) ≡ judgment 24 j own
      go true true on e = on e
      go true false on e = e
      go false b on e = e

  pub left_both : (xs ys : List (List ℕ)) (z : List ℕ) → left_by_lines give (xs ++ ys) z ≡ left_by_lines give ys (left_by_lines give xs z)
  unfolding left_by_lines
  left_both [] ys z = refl
  left_both (w ∷ xs) ys z = left_both xs ys (give w z).state

  -- n events more before them
  pub judged_later : (ys : List (List ℕ)) (n k : ℕ) (z : List ℕ) → judged_by give ys (n + k) z ≡ later n (judged_by give ys k z)
  unfolding judged_by later if◌then◌or_else◌
  judged_later [] n k z = refl
  judged_later (w ∷ ys) n k z = go (eqb (give w z).number 0) (give w z).right (judged_later ys n (k + 1) (give w z).state)
    where
      go : (a b : Bool) → judged_by give ys (n + (k + 1)) (give w z).state ≡ later n (judged_by give ys (k + 1) (give w z).state)
          → (if a then if b then judged_by give ys (n + k + 1) (give w z).state or_else judgment 24 (n + k) 0 or_else judgment 24 (n + k) (give w z).number)
          ≡ later n (if a then if b then judged_by give ys (k + 1) (give w z).state or_else judgment 24 k 0 or_else judgment 24 k (give w z).number)
      go true true e = ap (λ (m : ℕ). judged_by give ys m (give w z).state) (let p : n + k + 1 ≡ n + (k + 1) = omega arith in p) ∙ e
      go true false e = refl
      go false b e = refl

-- a log, by its lines
pub log_by_lines : (give : List ℕ → List ℕ → Taking) (a z : List ℕ) → IsLog a → judged_from give a z ≡ judged_by give (lines_of a) 0 z
unfolding judged_from judged_end
log_by_lines give a z l = rw l.1 refl

-- AN ANSWER COUNTED ON from n events: the same number
later_number : (n : ℕ) (j : Judged) → (later n j).number ≡ j.number
unfolding later
later_number n j = by_choice (λ (d : Judged). d.number ≡ j.number) (eqb j.number 24) (judgment 24 (n + j.beside) j.own) j (λ e. sym (eqb-true j.number 24 e)) (λ e. refl)

refused_same : (j : Judged) (x y z : List ℕ) → (j.number ≡ 0 → ⊥) → kept_by j x z ≡ kept_by j y z
unfolding kept_by if◌then◌or_else◌
refused_same j x y z n = rw (ne_eqb j.number 0 n) refl

-- x is what lines leave of z, where they are lawful
kept_on : (n : ℕ) (j : Judged) (x z y : List ℕ) → kept_by (later n j) x y ≡ kept_by (later n (kept_by j x z).answer) (kept_by j x z).state y
kept_on n j x z y =
    by_test (eqb j.number 0)
    (λ e. rw (kept_answer j x z, kept_left j x z (eqb-true j.number 0 e)))
    (λ e.
    let no : j.number ≡ 0 → ⊥ = eqb-false j.number 0 e in
    rw (kept_answer j x z, kept_lent j x z no) (refused_same (later n j) x z y (λ d. no (sym (later_number n j) ∙ d))))

module _ (t a b c : List ℕ) (la : IsLog a) (lb : IsLog b) (lc : IsLog c) (both : lines_of c ≡ lines_of a ++ lines_of b) where
  abbrev n : ℕ
  n = length (lines_of a)

  -- from a valid state on, where a is lawful: y is the state that it leaves
  module _ (z : List ℕ) (valid : Valid t z) (first : judged_by (take t) (lines_of a) 0 z ≡ lawful) where
    abbrev y : List ℕ
    y = left_to t a z

    counted : judged_by (take t) (lines_of c) 0 z ≡ later n (judged_by (take t) (lines_of b) 0 y)
    unfolding left_to
    counted =
        ap (λ (ws : List (List ℕ)). judged_by (take t) ws 0 z) both
        ∙ judged_both (take t) (lines_of a) (lines_of b) 0 z first
        ∙ ap (λ (k : ℕ). judged_by (take t) (lines_of b) k y) (let e : 0 + n ≡ n + 0 = omega arith in e)
        ∙ judged_later (take t) (lines_of b) n 0 y

    left : left_to t c z ≡ left_to t b y
    unfolding left_to
    left = ap (λ (ws : List (List ℕ)). left_by_lines (take t) ws z) both ∙ left_both (take t) (lines_of a) (lines_of b) z

    -- what is left of both, x being lent
    together : fitting t y ≡ true → (x : List ℕ) → kept_by (judged_by (take t) (lines_of c) 0 z) (left_to t c z) x ≡ kept_by (later n (resumed_to t y b).answer) (resumed_to t y b).state x
    together f x =
        rw (resume_fitting t y f b, log_by_lines (take t) b y lb, counted, left)
        (kept_on n (judged_by (take t) (lines_of b) 0 y) (left_to t b y) y x)

  -- "REPLAYING xs AND THEN RESUMING WITH ys IS REPLAYING BOTH": x is lent to the first, y to the replay of both; a fault is told with its place in both
  pub replay_then_resume : (v : ℕ) (x y : List ℕ) → (replayed_to t v a x).answer ≡ lawful
      → replayed_to t v c y ≡ kept_by (later n (resumed_to t (replayed_to t v a x).state b).answer) (resumed_to t (replayed_to t v a x).state b).state y
  unfolding replayed_to
  replay_then_resume v x y h =
      let e : judged_to t v a ≡ lawful = sym (replay_answer t v a x) ∙ h in
      let zero_is : (judged_to t v a).number ≡ 0 = ap (λ (j : Judged). j.number) e in
      let l = by_lines t v a 0 0 0 (λ k. omega (arith, k)) (λ k. omega (arith, k)) (λ k. omega (arith, k)) e in
      let s : (replayed_to t v a x).state ≡ left_to t a (fresh t v) = replay_left t v a x zero_is in
      let f : fitting t (left_to t a (fresh t v)) ≡ true = subst (λ (q : List ℕ). fitting t q ≡ true) s (replay_valid t v a x (ap (λ (j : Judged). j.number) h)).fits in
      ap (λ (j : Judged). kept_by j (left_to t c (fresh t v)) y) (log_judged t v l.0 c lc.0 lc.1)
      ∙ together (fresh t v) (fresh-valid t v l.0) l.1 f y
      ∙ ap (λ (q : List ℕ). kept_by (later n (resumed_to t q b).answer) (resumed_to t q b).state y) (sym s)

  -- and so from a checkpoint z: resuming twice
  pub resume_then_resume : (z : List ℕ) → Valid t z → (resumed_to t z a).answer ≡ lawful
      → resumed_to t z c ≡ kept_by (later n (resumed_to t (resumed_to t z a).state b).answer) (resumed_to t (resumed_to t z a).state b).state z
  resume_then_resume z v h =
      let k = resume_fitting t z v.fits a in
      let j : Judged = judged_from (take t) a z in
      let e : j ≡ lawful = sym (kept_answer j (left_to t a z) z) ∙ ap (λ (r : Replayed). r.answer) (sym k) ∙ h in
      let s : (resumed_to t z a).state ≡ left_to t a z = ap (λ (r : Replayed). r.state) k ∙ kept_left j (left_to t a z) z (ap (λ (d : Judged). d.number) e) in
      let f : fitting t (left_to t a z) ≡ true = subst (λ (q : List ℕ). fitting t q ≡ true) s (resume_valid t z v a).fits in
      resume_fitting t z v.fits c
      ∙ ap (λ (d : Judged). kept_by d (left_to t c z) z) (log_by_lines (take t) c z lc)
      ∙ together z v (sym (log_by_lines (take t) a z la) ∙ e) f z
      ∙ ap (λ (q : List ℕ). kept_by (later n (resumed_to t q b).answer) (resumed_to t q b).state z) (sym s)

  -- a fault in the first is the fault of both
  pub first_part_at_fault : (v k own : ℕ) → judged_to t v a ≡ judgment 24 k own → judged_to t v c ≡ judgment 24 k own
  first_part_at_fault v k own e =
      let l = by_lines t v a 24 k own (λ h. omega (arith, h)) (λ h. omega (arith, h)) (λ h. omega (arith, h)) e in
      log_judged t v l.0 c lc.0 lc.1
      ∙ ap (λ (ws : List (List ℕ)). judged_by (take t) ws 0 (fresh t v)) both
      ∙ fault_both (take t) (lines_of a) (lines_of b) 0 (fresh t v) k own l.1
