-- A log as the code judges it is the log judged by the public calls: the fresh state is valid, and every later one. Assumes nothing.
use Prim.Native.Nat.{ℕ}
use mathlib.Core.Path.{◌≡◌, sym, ◌∙◌, ap}
use mathlib.Core.Bool.{true, false}
use mathlib.Core.List.{List}
use lib.Dec.{eqb}
use lib.ListN.{length}
use borrow.Author.Tests.{eq-eqb, ne_eqb}
use Rattle.base_words.specs.Pick.{if◌then◌or_else◌}
use Rattle.base_state.specs.Places.{state_words}
use Rattle.state_fits.specs.Fresh.{fresh}
use Rattle.proof_steps.proofs.Choices.{by_choice}
use Rattle.step_poll.specs.Poll.{settled_step, settled_post}
use Rattle.log_lines.specs.Entries.{entry_of}
use Rattle.log_judge.specs.declared.Judged.{Judged}
use Rattle.log_text.specs.Logs.{lines_of}
use Rattle.log_judge.specs.Judge.{Taking, taken_by, line_taken, judgment, judged_from, left_by_lines}
use Rattle.log_judge.proofs.Faults.{same_log, same_left}
use Rattle.engine.specs.Engine.{asked_number, lent_number, fitting, stepped, posted_to}
use Rattle.engine.specs.Calls.{Valid, judged_to}
use Rattle.engine.specs.Replay.{Replayed, kept_by, left_to, replayed_to, resumed_to}
use Rattle.engine.proofs.KeepsValid.{step-valid, post-valid, fresh-valid}
use Rattle.engine.proofs.PollLaws.{same_step, same_post}

module _ (t : List ℕ) where
  same_taken : (w z : List ℕ) → Valid t z → line_taken (settled_step t) settled_post w z ≡ line_taken (stepped t) (posted_to t) w z
  unfolding line_taken taken_by
  same_taken w z v = rw (same_step t z v (entry_of w).name, same_post t z v (entry_of w).name.pool (entry_of w).name.given)

  taken_valid : (w z : List ℕ) → Valid t z → Valid t (line_taken (stepped t) (posted_to t) w z).state
  unfolding line_taken taken_by
  taken_valid w z v =
      by_choice (λ (x : Taking). Valid t x.state) (entry_of w).posts _ _
      (λ e. post-valid t z v (entry_of w).name.pool (entry_of w).name.given)
      (λ e. step-valid t z v (entry_of w).name)

  -- THE JUDGE from a valid state z on, y being the one that the code left
  judged_by_calls : (log z : List ℕ) (r : Judged) → Valid t z → r ≡ judged_from (line_taken (settled_step t) settled_post) log z → r ≡ judged_from (line_taken (stepped t) (posted_to t)) log z
  judged_by_calls log z r v d = d ∙ same_log (line_taken (settled_step t) settled_post) (line_taken (stepped t) (posted_to t)) (Valid t) same_taken taken_valid log z v

  left_by_calls : (log z y : List ℕ) → Valid t z → y ≡ left_by_lines (line_taken (settled_step t) settled_post) (lines_of log) z → y ≡ left_to t log z
  unfolding left_to
  left_by_calls log z y v d = d ∙ same_left (line_taken (settled_step t) settled_post) (line_taken (stepped t) (posted_to t)) (Valid t) same_taken taken_valid (lines_of log) z v

  -- from the fresh state: k is the number of the table and the version asked for
  module _ (v : ℕ) (log : List ℕ) (k : ℕ) (e : k ≡ asked_number t v) where
    pub judge_bad : (k ≡ 0 → ⊥) → judgment k 0 0 ≡ judged_to t v log
    unfolding judged_to if◌then◌or_else◌
    judge_bad h = let none : eqb (asked_number t v) 0 ≡ false = ne_eqb (asked_number t v) 0 (λ d. h (e ∙ d)) in rw (none, e)

    pub judge_done : (z : List ℕ) (r : Judged) → k ≡ 0 → z ≡ fresh t v → r ≡ judged_from (line_taken (settled_step t) settled_post) log z → r ≡ judged_to t v log
    unfolding judged_to if◌then◌or_else◌
    judge_done z r h f d =
        let asked : asked_number t v ≡ 0 = sym e ∙ h in
        let good : eqb (asked_number t v) 0 ≡ true = eq-eqb (asked_number t v) 0 asked in
        rw good (judged_by_calls log (fresh t v) r (fresh-valid t v asked) (d ∙ ap (judged_from (line_taken (settled_step t) settled_post) log) f))

    pub judge_left : (z y : List ℕ) → k ≡ 0 → z ≡ fresh t v → y ≡ left_by_lines (line_taken (settled_step t) settled_post) (lines_of log) z → y ≡ left_to t log (fresh t v)
    judge_left z y h f d =
        left_by_calls log (fresh t v) y (fresh-valid t v (sym e ∙ h)) (d ∙ ap (left_by_lines (line_taken (settled_step t) settled_post) (lines_of log)) f)

-- a number that refuses what is lent
pub not_judged : {A : Type 0} (r : Judged) (k : ℕ) → (k ≡ 0 → ⊥) → r ≡ judgment k 0 0 → r.number ≡ 0 → A
not_judged r k h e n = absurd (h (sym (ap (λ (j : Judged). j.number) e) ∙ n))

-- WHAT IS KEPT of it: y where the run was lawful, else what was lent, z
module _ (r j : Judged) (x z : List ℕ) (judged : r ≡ j) where
  pub kept_state : (y : List ℕ) → r.number ≡ 0 → (r.number ≡ 0 → y ≡ x) → ◌≡◌ {A = Replayed} (record { answer = r; state = y }) (kept_by j x z)
  unfolding kept_by if◌then◌or_else◌
  kept_state y h left = let good : eqb j.number 0 ≡ true = eq-eqb j.number 0 (sym (ap (λ (d : Judged). d.number) judged) ∙ h) in rw (good, ← judged, left h)

  pub lent_state : (r.number ≡ 0 → ⊥) → ◌≡◌ {A = Replayed} (record { answer = r; state = z }) (kept_by j x z)
  unfolding kept_by if◌then◌or_else◌
  lent_state h = let bad : eqb j.number 0 ≡ false = ne_eqb j.number 0 (λ d. h (ap (λ (d : Judged). d.number) judged ∙ d)) in rw (bad, ← judged)

-- FROM THE LENT STATE: k is the number of table and state
module _ (t z log : List ℕ) (k : ℕ) (e : k ≡ lent_number t z) where
  pub resume_bad : (k ≡ 0 → ⊥) → (r : Judged) → r ≡ judgment k 0 0 → ◌≡◌ {A = Replayed} (record { answer = r; state = z }) (resumed_to t z log)
  unfolding resumed_to fitting if◌then◌or_else◌
  resume_bad h r d = let bad : eqb (lent_number t z) 0 ≡ false = ne_eqb (lent_number t z) 0 (λ x. h (e ∙ x)) in rw (bad, d, e)

  resumes : k ≡ 0 → resumed_to t z log ≡ kept_by (judged_from (line_taken (stepped t) (posted_to t)) log z) (left_to t log z) z
  unfolding resumed_to fitting if◌then◌or_else◌
  resumes h = let good : eqb (lent_number t z) 0 ≡ true = eq-eqb (lent_number t z) 0 (sym e ∙ h) in rw good

  lent_valid : k ≡ 0 → length z ≡ state_words → Valid t z
  unfolding fitting
  lent_valid h long = record { long = long; fits = eq-eqb (lent_number t z) 0 (sym e ∙ h) }

  module _ (h : k ≡ 0) (long : length z ≡ state_words) (r : Judged) (y : List ℕ) (judged : r ≡ judged_from (line_taken (settled_step t) settled_post) log z)
      (left : r.number ≡ 0 → y ≡ left_by_lines (line_taken (settled_step t) settled_post) (lines_of log) z) where
    pub resume_lawful : r.number ≡ 0 → ◌≡◌ {A = Replayed} (record { answer = r; state = y }) (resumed_to t z log)
    resume_lawful n =
        kept_state r _ (left_to t log z) z (judged_by_calls t log z r (lent_valid h long) judged) y n (λ d. left_by_calls t log z y (lent_valid h long) (left d)) ∙ sym (resumes h)

    pub resume_refused : (r.number ≡ 0 → ⊥) → ◌≡◌ {A = Replayed} (record { answer = r; state = z }) (resumed_to t z log)
    resume_refused n = lent_state r _ (left_to t log z) z (judged_by_calls t log z r (lent_valid h long) judged) n ∙ sym (resumes h)
