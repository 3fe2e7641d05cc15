-- A LOG IS LAWFUL EXACTLY WHEN its lines are those of steps and posts accepted in turn from the fresh state, each step's as it is printed; and the event that 24 names is at fault with that number, while those
-- before it are not. t is a table, v a version, a a text. Assumes nothing.
use Prim.Native.Nat.{ℕ, zero, suc, ◌+◌}
use mathlib.Core.Path.{◌≡◌, ◌∙◌, refl, sym, ap, subst}
use mathlib.Core.Bool.{Bool, true, false, ◌&&◌}
use mathlib.Core.List.{List, [], ◌∷◌, ◌++◌}
use native.Mathlib.Omega.{arith}
use lib.Dec.{eqb}
use lib.ListN.{length}
use borrow.Author.Tests.{eqb-true, eqb-false, eq-eqb}
use Rattle.base_words.specs.Pick.{if◌then◌or_else◌}
use Rattle.base_words.proofs.PickLaws.{and_true}
use Rattle.state_fits.specs.Fresh.{fresh}
use Rattle.proof_steps.proofs.Choices.{by_test}
use Rattle.log_text.specs.Logs.{lines_of}
use Rattle.log_lines.specs.Entries.{entry_of}
use Rattle.log_judge.specs.declared.Judged.{Judged}
use Rattle.log_judge.specs.Judge.{judgment, lawful, judged_by}
use Rattle.engine.specs.Engine.{asked_number}
use Rattle.engine.specs.Calls.{did, all_accepted, after, judged_to}
use Rattle.engine.specs.Replay.{left_to, replayed_to}
use Rattle.proof_demands.proofs.Replays.{replay_answer, replay_left}
use Rattle.proof_logs.specs.Told.{line_told}
use Rattle.proof_logs.proofs.OwnLog.{log_judged}
use Rattle.proof_logs.proofs.LogLaws.{by_lines}
use Rattle.proof_repair.proofs.Repairs.{IsLog}
use Rattle.proof_repair.proofs.Lawful.{a_log}
use Rattle.proof_replay.specs.Lines.{act_of, acts_of, Tells, AllTell, AtFault, FirstFault}
use Rattle.proof_replay.proofs.LineLaws.{take, number_is, state_is, step_true, post_true, true_printed, untrue, left_after}

module _ (t : List ℕ) where
  -- ONE LINE, k events before it
  module _ (w : List ℕ) (ws : List (List ℕ)) (k : ℕ) (z : List ℕ) where
    abbrev onward : Judged
    onward = judged_by (take t) ws (k + 1) (did t (act_of w) z).state

    pub line_on : eqb (take t w z).number 0 ≡ true → (take t w z).right ≡ true → judged_by (take t) (w ∷ ws) k z ≡ onward
    unfolding judged_by if◌then◌or_else◌
    line_on a b = rw (a, b) (ap (judged_by (take t) ws (k + 1)) (state_is t w z))

    line_untrue : eqb (take t w z).number 0 ≡ true → (take t w z).right ≡ false → judged_by (take t) (w ∷ ws) k z ≡ judgment 24 k 0
    unfolding judged_by if◌then◌or_else◌
    line_untrue a b = rw (a, b) refl

    line_refused : eqb (take t w z).number 0 ≡ false → judged_by (take t) (w ∷ ws) k z ≡ judgment 24 k (take t w z).number
    unfolding judged_by if◌then◌or_else◌
    line_refused a = rw a refl

    -- true and on, or at fault
    pub by_line : (P : Type 0) → (Tells t w z → judged_by (take t) (w ∷ ws) k z ≡ onward → P)
        → ((own : ℕ) → AtFault t w z own → judged_by (take t) (w ∷ ws) k z ≡ judgment 24 k own → P) → P
    by_line P on fault =
        by_test (eqb (take t w z).number 0)
        (λ a.
        let none : (did t (act_of w) z).number ≡ 0 = sym (number_is t w z) ∙ eqb-true (take t w z).number 0 a in
        by_test (take t w z).right
        (λ b. on (record { accepted = none; printed = true_printed t w z b }) (line_on a b))
        (λ b. fault 0 (record { number_is = none; untrue = λ e. untrue t w z b }) (line_untrue a b)))
        (λ a.
        fault (take t w z).number
        (record { number_is = sym (number_is t w z); untrue = λ e. absurd (eqb-false (take t w z).number 0 a e) })
        (line_refused a))

  -- ALL OF THEM: lawful only when each is true
  pub only_true : (ws : List (List ℕ)) (k : ℕ) (z : List ℕ) → judged_by (take t) ws k z ≡ lawful → AllTell t ws z
  unfolding AllTell
  only_true [] k z h = tt
  only_true (w ∷ ws) k z h =
      by_line w ws k z (Tells t w z × AllTell t ws (did t (act_of w) z).state)
      (λ tells e. (tells, only_true ws (k + 1) (did t (act_of w) z).state (sym e ∙ h)))
      (λ own f e. absurd (omega (arith, ap (λ (j : Judged). j.number) (sym e ∙ h))))

  -- and whenever
  true_on : (w : List ℕ) (ws : List (List ℕ)) (k : ℕ) (z : List ℕ) → Tells t w z → judged_by (take t) (w ∷ ws) k z ≡ judged_by (take t) ws (k + 1) (did t (act_of w) z).state
  true_on w ws k z h =
      line_on w ws k z (eq-eqb (take t w z).number 0 (number_is t w z ∙ h.accepted))
      (by_test (entry_of w).posts (post_true t w z) (λ e. step_true t w z e (h.printed e)))

  pub true-lawful : (ws : List (List ℕ)) (k : ℕ) (z : List ℕ) → AllTell t ws z → judged_by (take t) ws k z ≡ lawful
  unfolding AllTell judged_by
  true-lawful [] k z h = refl
  true-lawful (w ∷ ws) k z h = true_on w ws k z h.0 ∙ true-lawful ws (k + 1) (did t (act_of w) z).state h.1

  -- each is accepted
  pub tell_accepted : (ws : List (List ℕ)) (z : List ℕ) → AllTell t ws z → all_accepted t (acts_of ws) z ≡ true
  unfolding AllTell acts_of all_accepted
  tell_accepted [] z h = refl
  tell_accepted (w ∷ ws) z h =
      and_true (eqb (did t (act_of w) z).number 0) (all_accepted t (acts_of ws) (did t (act_of w) z).state) (eq-eqb (did t (act_of w) z).number 0 h.0.accepted)
      (tell_accepted ws (did t (act_of w) z).state h.1)

  -- THE FIRST AT FAULT, k events before these
  fault_here : (w : List ℕ) (ws : List (List ℕ)) (z : List ℕ) (own : ℕ) → AtFault t w z own → FirstFault t (w ∷ ws) z 0 own
  unfolding AllTell acts_of after
  fault_here w ws z own f = record { before = []; line = w; rest = ws; are = refl; place = refl; true_before = tt; fault = f }

  fault_later : (w : List ℕ) (ws : List (List ℕ)) (z : List ℕ) (n own : ℕ) → Tells t w z → FirstFault t ws (did t (act_of w) z).state n own → FirstFault t (w ∷ ws) z (suc n) own
  unfolding AllTell acts_of after
  fault_later w ws z n own h f = record {
    before = w ∷ f.before;
    line = f.line;
    rest = f.rest;
    are = ap (λ (l : List (List ℕ)). w ∷ l) f.are;
    place = ap suc f.place;
    true_before = (h, f.true_before);
    fault = f.fault;
  }

  pub first_fault_is : (ws : List (List ℕ)) (k : ℕ) (z : List ℕ) (j own : ℕ) → judged_by (take t) ws k z ≡ judgment 24 j own → (n : ℕ) × (j ≡ k + n) × FirstFault t ws z n own
  unfolding judged_by
  first_fault_is [] k z j own h = absurd (omega (arith, ap (λ (d : Judged). d.number) h))
  first_fault_is (w ∷ ws) k z j own h =
      by_line w ws k z ((n : ℕ) × (j ≡ k + n) × FirstFault t (w ∷ ws) z n own)
      (λ tells e.
      let f = first_fault_is ws (k + 1) (did t (act_of w) z).state j own (sym e ∙ h) in
      (suc f.0, omega (arith, f.1), fault_later w ws z f.0 own tells f.2))
      (λ o f e.
      let same : judgment 24 k o ≡ judgment 24 j own = sym e ∙ h in
      (0, omega (arith, ap (λ (d : Judged). d.beside) same), fault_here w ws z own (subst (AtFault t w z) (ap (λ (d : Judged). d.own) same) f)))

  -- BY THE PUBLIC CALL
  module _ (v : ℕ) (a : List ℕ) where
    -- "a log is lawful only if its lines are those of steps and posts accepted in turn from the fresh state"
    pub lawful_only : judged_to t v a ≡ lawful → (asked_number t v ≡ 0) × IsLog a × AllTell t (lines_of a) (fresh t v)
    lawful_only e =
        let l = by_lines t v a 0 0 0 (λ h. omega (arith, h)) (λ h. omega (arith, h)) (λ h. omega (arith, h)) e in
        (l.0, a_log t v a e, only_true (lines_of a) 0 (fresh t v) l.1)

    pub lawful_when : asked_number t v ≡ 0 → IsLog a → AllTell t (lines_of a) (fresh t v) → judged_to t v a ≡ lawful
    lawful_when asked l h = log_judged t v asked a l.0 l.1 ∙ true-lawful (lines_of a) 0 (fresh t v) h

    pub lawful_accepted : judged_to t v a ≡ lawful → all_accepted t (acts_of (lines_of a)) (fresh t v) ≡ true
    lawful_accepted e = tell_accepted (lines_of a) (fresh t v) (lawful_only e).2

    -- "the event that 24 names is at fault with that number, and those before it are not"
    pub fault_is : (k own : ℕ) → judged_to t v a ≡ judgment 24 k own → FirstFault t (lines_of a) (fresh t v) k own
    fault_is k own e =
        let l = by_lines t v a 24 k own (λ h. omega (arith, h)) (λ h. omega (arith, h)) (λ h. omega (arith, h)) e in
        let f = first_fault_is (lines_of a) 0 (fresh t v) k own l.1 in
        subst (λ (n : ℕ). FirstFault t (lines_of a) (fresh t v) n own) (omega (arith, f.1)) f.2

    -- what a lawful log is replayed to: the state after the calls that its lines name
    pub replayed_is : judged_to t v a ≡ lawful → (z : List ℕ) → replayed_to t v a z ≡ record { answer = lawful; state = after t (acts_of (lines_of a)) (fresh t v) }
    unfolding left_to
    replayed_is e z =
        let s : (replayed_to t v a z).state ≡ after t (acts_of (lines_of a)) (fresh t v) = replay_left t v a z (ap (λ (j : Judged). j.number) e) ∙ left_after t (lines_of a) (fresh t v) in
        let j : (replayed_to t v a z).answer ≡ lawful = replay_answer t v a z ∙ e in
        λ i. record { answer = j i; state = s i }
