-- WHAT A REPLAY AND A RESUMPTION LEAVE: the answer is the judge's, a refused one leaves the state that was lent, and what is left of a valid state is valid. t is a table, z a state, log a text. Assumes nothing.
use Prim.Native.Nat.{ℕ}
use mathlib.Core.Path.{◌≡◌, refl, sym, ◌∙◌, ap, subst}
use mathlib.Core.Bool.{Bool, true, false}
use mathlib.Core.List.{List, [], ◌∷◌}
use lib.Dec.{eqb}
use borrow.Author.Tests.{eqb-true, eqb-false, eq-eqb}
use Rattle.base_words.specs.Pick.{if◌then◌or_else◌}
use Rattle.state_fits.specs.Fresh.{fresh}
use Rattle.proof_steps.proofs.Choices.{by_test, by_choice, chosen, passed}
use Rattle.log_text.specs.Logs.{scan, lines_of}
use Rattle.log_judge.specs.declared.Judged.{Judged}
use Rattle.log_judge.specs.Judge.{line_taken, judgment, judged_by, judged_from, left_by_lines}
use Rattle.engine.specs.Engine.{asked_number, lent_number, fitting, stepped, posted_to}
use Rattle.engine.specs.Calls.{Valid, judged_to}
use Rattle.engine.specs.Replay.{Replayed, kept_by, left_to, replayed_to, resumed_to}
use Rattle.engine.proofs.CallLaws.{by_lent}
use Rattle.engine.proofs.KeepsValid.{fresh-valid}
use Rattle.proof_demands.specs.Promises.{Replays, Resumes}
use Rattle.proof_demands.specs.Demands.{is_one_of, judge_numbers}
use Rattle.proof_demands.proofs.Judgements.{lines_among, end_among, judge_numbers_lem, judge_bad, line_own}

-- what is kept: the answer as it is, and the state that the lines left, or the one that was lent
module _ (j : Judged) (y z : List ℕ) where
  pub kept_answer : (kept_by j y z).answer ≡ j
  unfolding kept_by
  kept_answer = by_choice (λ (r : Replayed). r.answer ≡ j) (eqb j.number 0) _ _ (λ e. refl) (λ e. refl)

  pub kept_left : j.number ≡ 0 → (kept_by j y z).state ≡ y
  unfolding kept_by
  kept_left e = ap (λ (r : Replayed). r.state) (chosen {A = Replayed} (eqb j.number 0) (record { answer = j; state = y }) _ (eq-eqb j.number 0 e))

  pub kept_lent : (j.number ≡ 0 → ⊥) → (kept_by j y z).state ≡ z
  unfolding kept_by
  kept_lent n = by_choice (λ (r : Replayed). r.state ≡ z) (eqb j.number 0) _ _ (λ e. absurd (n (eqb-true j.number 0 e))) (λ e. refl)

module _ (t : List ℕ) where
  -- the lines of a log leave a valid state
  lines_valid : (ws : List (List ℕ)) (z : List ℕ) → Valid t z → Valid t (left_by_lines (line_taken (stepped t) (posted_to t)) ws z)
  unfolding left_by_lines
  lines_valid [] z v = v
  lines_valid (w ∷ ws) z v = lines_valid ws (line_taken (stepped t) (posted_to t) w z).state (line_own t w z v).1

  left_valid : (log z : List ℕ) → Valid t z → Valid t (left_to t log z)
  unfolding left_to
  left_valid log z v = lines_valid (lines_of log) z v

  -- FROM THE FRESH STATE of version v
  module _ (v : ℕ) (log z : List ℕ) where
    -- "10, 25, 23, 24 as judge": judge is replay that keeps nothing
    pub replay_answer : (replayed_to t v log z).answer ≡ judged_to t v log
    unfolding replayed_to
    replay_answer = kept_answer (judged_to t v log) (left_to t log (fresh t v)) z

    -- "and the state stays; else 0 and the state is the one that the log's run leaves"
    pub replay_refused : ((judged_to t v log).number ≡ 0 → ⊥) → (replayed_to t v log z).state ≡ z
    unfolding replayed_to
    replay_refused n = kept_lent (judged_to t v log) (left_to t log (fresh t v)) z n

    pub replay_left : (judged_to t v log).number ≡ 0 → (replayed_to t v log z).state ≡ left_to t log (fresh t v)
    unfolding replayed_to
    replay_left e = kept_left (judged_to t v log) (left_to t log (fresh t v)) z e

    pub replay_numbers : is_one_of judge_numbers (replayed_to t v log z).answer.number ≡ true
    replay_numbers = ap (λ (j : Judged). is_one_of judge_numbers j.number) replay_answer ∙ judge_numbers_lem t v log

    -- what is not refused was asked of a valid table and a version that there is
    replay_asked : (judged_to t v log).number ≡ 0 → asked_number t v ≡ 0
    replay_asked e =
        by_test (eqb (asked_number t v) 0) (λ b. eqb-true (asked_number t v) 0 b)
        (λ b. let n = eqb-false (asked_number t v) 0 b in absurd (n (sym (ap (λ (j : Judged). j.number) (judge_bad t v log n)) ∙ e)))

    pub replay_valid : (replayed_to t v log z).answer.number ≡ 0 → Valid t (replayed_to t v log z).state
    replay_valid n =
        let e : (judged_to t v log).number ≡ 0 = sym (ap (λ (j : Judged). j.number) replay_answer) ∙ n in
        subst (Valid t) (sym (replay_left e)) (left_valid log (fresh t v) (fresh-valid t v (replay_asked e)))

  -- FROM THE LENT STATE
  module _ (z : List ℕ) where
    -- table and state are right: by the lines alone
    pub resume_fitting : fitting t z ≡ true → (log : List ℕ) → resumed_to t z log ≡ kept_by (judged_from (line_taken (stepped t) (posted_to t)) log z) (left_to t log z) z
    unfolding resumed_to
    resume_fitting f log = chosen (fitting t z) _ _ f

    -- "10 and 25 of table and state", whatever the text
    pub resume_bad : fitting t z ≡ false → (log : List ℕ) → resumed_to t z log ≡ record { answer = judgment (lent_number t z) 0 0; state = z }
    unfolding resumed_to
    resume_bad f log = passed {A = Replayed} (fitting t z) _ (record { answer = judgment (lent_number t z) 0 0; state = z }) f

    pub resume_among : fitting t z ≡ true → (log : List ℕ) (f : ℕ → Bool) → f 0 ≡ true → f 24 ≡ true → f 23 ≡ true → f (resumed_to t z log).answer.number ≡ true
    unfolding judged_from
    resume_among fits log f none event text =
        rw (resume_fitting fits log, kept_answer (judged_from (line_taken (stepped t) (posted_to t)) log z) (left_to t log z) z)
        (end_among f none event text (scan log).end (judged_by (line_taken (stepped t) (posted_to t)) (lines_of log) 0 z) (lines_among f none event (line_taken (stepped t) (posted_to t)) (lines_of log) 0 z))

    pub resume_numbers : (log : List ℕ) → is_one_of judge_numbers (resumed_to t z log).answer.number ≡ true
    unfolding is_one_of if◌then◌or_else◌
    resume_numbers log =
        by_test (fitting t z) (λ f. resume_among f log (is_one_of judge_numbers) refl refl refl)
        (λ f. ap (λ (r : Replayed). is_one_of judge_numbers r.answer.number) (resume_bad f log) ∙ by_lent (λ k. is_one_of judge_numbers k ≡ true) t z refl refl refl)

    pub resume_refused : (log : List ℕ) → ((resumed_to t z log).answer.number ≡ 0 → ⊥) → (resumed_to t z log).state ≡ z
    resume_refused log n =
        let j : Judged = judged_from (line_taken (stepped t) (posted_to t)) log z in
        by_test (fitting t z)
        (λ f.
        let k = resume_fitting f log in
        ap (λ (r : Replayed). r.state) k
        ∙ kept_lent j (left_to t log z) z (λ e. n (ap (λ (r : Replayed). r.answer.number) k ∙ ap (λ (d : Judged). d.number) (kept_answer j (left_to t log z) z) ∙ e)))
        (λ f. ap (λ (r : Replayed). r.state) (resume_bad f log))

    pub resume_valid : Valid t z → (log : List ℕ) → Valid t (resumed_to t z log).state
    unfolding kept_by
    resume_valid v log =
        rw (resume_fitting v.fits log)
        (by_choice (λ (r : Replayed). Valid t r.state) (eqb (judged_from (line_taken (stepped t) (posted_to t)) log z).number 0) _ _ (λ e. left_valid log z v) (λ e. v))

-- BY THEIR PROMISES: a refused call leaves the state
pub replay_refused_is : (t : List ℕ) (v : ℕ) (log z : List ℕ) (r : Judged) (y : List ℕ) → Replays t v log z r y → (r.number ≡ 0 → ⊥) → y ≡ z
replay_refused_is t v log z r y promise n =
    ap (λ (o : Replayed). o.state) promise
    ∙ replay_refused t v log z (λ e. n (ap (λ (o : Replayed). o.answer.number) promise ∙ ap (λ (j : Judged). j.number) (replay_answer t v log z) ∙ e))

pub resume_refused_is : (t z log : List ℕ) (r : Judged) (y : List ℕ) → Resumes t z log r y → (r.number ≡ 0 → ⊥) → y ≡ z
resume_refused_is t z log r y promise n = ap (λ (o : Replayed). o.state) promise ∙ resume_refused t z log (λ e. n (ap (λ (o : Replayed). o.answer.number) promise ∙ e))
