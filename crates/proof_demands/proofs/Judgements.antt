-- WHAT THE JUDGE ANSWERS: which numbers can come, that 10 comes exactly where the table is not valid and 25 behind it for another version. t is a table, z a state, log a text. Assumes nothing.
use Rattle.xml_skip.specs.Skipping.{Reached}
use Rattle.std.specs.Prelude.{Ok, Err}
use Prim.Native.Nat.{ℕ, ◌+◌}
use mathlib.Core.Path.{◌≡◌, refl, ◌∙◌, ap}
use mathlib.Core.Bool.{Bool, true, false}
use mathlib.Core.List.{List, [], ◌∷◌}
use lib.Dec.{eqb}
use borrow.Author.Tests.{eqb-true, eqb-false, eq-eqb, ne_eqb}
use Rattle.base_words.specs.Each.{each}
use Rattle.base_words.specs.Pick.{if◌then◌or_else◌}
use Rattle.base_state.specs.Instances.{instances_of, queues_of}
use Rattle.meaning.specs.Post.{post_refusals}
use Rattle.meaning.specs.Step.{refusals_at, refusals}
use Rattle.state_fits.specs.Fresh.{fresh}
use Rattle.proof_steps.proofs.Choices.{by_test, by_choice, chosen, passed}
use Rattle.log_lines.specs.Entries.{entry_of}
use Rattle.log_text.specs.Logs.{scan, lines_of}
use Rattle.log_judge.specs.declared.Judged.{Judged}
use Rattle.log_judge.specs.Judge.{Taking, taken_by, line_taken, judgment, judged_by, judged_end, judged_from}
use Rattle.engine.specs.Engine.{asked_number, stepped, posted_to}
use Rattle.engine.specs.Calls.{Act, a_step, a_post, did, Valid, judged_to}
use Rattle.engine.proofs.CallLaws.{by_asked}
use Rattle.engine.proofs.KeepsValid.{did-valid, fresh-valid}
use Rattle.proof_demands.specs.Demands.{is_one_of, judge_numbers, own_numbers}
use Rattle.proof_demands.proofs.Numbers.{first_among}
use Rattle.proof_demands.proofs.StatesLeft.{step_number, post_number}

-- what holds of the number of a log that is lawful, of one with an event at fault and of a text that is no log holds of every number
module _ (f : ℕ → Bool) (none : f 0 ≡ true) (event : f 24 ≡ true) where
  pub lines_among : (take : List ℕ → List ℕ → Taking) (ws : List (List ℕ)) (k : ℕ) (z : List ℕ) → f (judged_by take ws k z).number ≡ true
  unfolding judged_by
  lines_among take [] k z = none
  lines_among take (w ∷ ws) k z =
      by_choice (λ (j : Judged). f j.number ≡ true) (eqb (take w z).number 0) _ (judgment 24 k (take w z).number)
      (λ e.
      by_choice (λ (j : Judged). f j.number ≡ true) (take w z).right (judged_by take ws (k + 1) (take w z).state) (judgment 24 k 0)
      (λ d. lines_among take ws (k + 1) (take w z).state)
      (λ d. event))
      (λ e. event)

  pub end_among : f 23 ≡ true → (s : Reached) (j : Judged) → f j.number ≡ true → f (judged_end s j).number ≡ true
  unfolding judged_end
  end_among text (Ok q) j h = h
  end_among text (Err q) j h = text

module _ (t : List ℕ) (v : ℕ) (log : List ℕ) where
  pub judged_among : (f : ℕ → Bool) → f 0 ≡ true → f 24 ≡ true → f 23 ≡ true → asked_number t v ≡ 0 → f (judged_to t v log).number ≡ true
  unfolding judged_to judged_from
  judged_among f none event text asked =
      rw
      (chosen (eqb (asked_number t v) 0) (judged_end (scan log).end (judged_by (line_taken (stepped t) (posted_to t)) (lines_of log) 0 (fresh t v))) (judgment (asked_number t v) 0 0)
      (eq-eqb (asked_number t v) 0 asked))
      (end_among f none event text (scan log).end (judged_by (line_taken (stepped t) (posted_to t)) (lines_of log) 0 (fresh t v))
      (lines_among f none event (line_taken (stepped t) (posted_to t)) (lines_of log) 0 (fresh t v)))

  -- "10" for a table that is not valid, "25" for another version, whatever the text
  pub judge_bad : (asked_number t v ≡ 0 → ⊥) → judged_to t v log ≡ judgment (asked_number t v) 0 0
  unfolding judged_to
  judge_bad h =
      passed (eqb (asked_number t v) 0) (judged_from (line_taken (stepped t) (posted_to t)) log (fresh t v)) (judgment (asked_number t v) 0 0) (ne_eqb (asked_number t v) 0 h)

  -- WHICH NUMBERS CAN COME
  pub judge_numbers_lem : is_one_of judge_numbers (judged_to t v log).number ≡ true
  unfolding is_one_of if◌then◌or_else◌
  judge_numbers_lem =
      by_test (eqb (asked_number t v) 0) (λ e. judged_among (is_one_of judge_numbers) refl refl refl (eqb-true (asked_number t v) 0 e))
      (λ e.
      ap (λ (j : Judged). is_one_of judge_numbers j.number) (judge_bad (eqb-false (asked_number t v) 0 e))
      ∙ by_asked (λ k. is_one_of judge_numbers k ≡ true) t v refl refl refl)

-- and which a step or a post at fault gives by itself
module _ (t : List ℕ) where
  abbrev Own : Judged → Type 0
  Own j = is_one_of own_numbers j.own ≡ true

  act_own : (a : Act) (z : List ℕ) → Valid t z → is_one_of own_numbers (did t a z).number ≡ true
  unfolding is_one_of refusals refusals_at post_refusals each if◌then◌or_else◌
  act_own (a_step n) z v = rw (step_number t z v n) (first_among (is_one_of own_numbers) (refusals t (instances_of z) (queues_of z) n) refl refl)
  act_own (a_post name g) z v = rw (post_number t z v name g) (first_among (is_one_of own_numbers) (post_refusals (queues_of z) name g) refl refl)

  -- what a line does
  pub line_own : (w z : List ℕ) → Valid t z → (is_one_of own_numbers (line_taken (stepped t) (posted_to t) w z).number ≡ true) × Valid t (line_taken (stepped t) (posted_to t) w z).state
  unfolding line_taken taken_by did
  line_own w z v =
      let post : Act = a_post (entry_of w).name.pool (entry_of w).name.given in
      let step : Act = a_step (entry_of w).name in
      by_choice (λ (x : Taking). (is_one_of own_numbers x.number ≡ true) × Valid t x.state) (entry_of w).posts _ _
      (λ e. (act_own post z v, did-valid t post z v))
      (λ e. (act_own step z v, did-valid t step z v))

  lines_own : (ws : List (List ℕ)) (k : ℕ) (z : List ℕ) → Valid t z → Own (judged_by (line_taken (stepped t) (posted_to t)) ws k z)
  unfolding judged_by is_one_of if◌then◌or_else◌
  lines_own [] k z v = refl
  lines_own (w ∷ ws) k z v =
      let x : Taking = line_taken (stepped t) (posted_to t) w z in
      by_choice Own (eqb x.number 0) _ (judgment 24 k x.number)
      (λ e.
      by_choice Own x.right (judged_by (line_taken (stepped t) (posted_to t)) ws (k + 1) x.state) (judgment 24 k 0)
      (λ d. lines_own ws (k + 1) x.state (line_own w z v).1)
      (λ d. refl))
      (λ e. (line_own w z v).0)

  end_own : (s : Reached) (j : Judged) → Own j → Own (judged_end s j)
  unfolding judged_end is_one_of if◌then◌or_else◌
  end_own (Ok q) j h = h
  end_own (Err q) j h = refl

  pub judge_own : (v : ℕ) (log : List ℕ) → is_one_of own_numbers (judged_to t v log).own ≡ true
  unfolding judged_to judged_from is_one_of if◌then◌or_else◌
  judge_own v log =
      by_choice Own (eqb (asked_number t v) 0) (judged_end (scan log).end (judged_by (line_taken (stepped t) (posted_to t)) (lines_of log) 0 (fresh t v)))
      (judgment (asked_number t v) 0 0)
      (λ e. end_own (scan log).end _ (lines_own (lines_of log) 0 (fresh t v) (fresh-valid t v (eqb-true (asked_number t v) 0 e))))
      (λ e. refl)
