-- REPLAYING A RUN'S OWN LOG gives exactly the state that the calls gave: of calls that were accepted from the fresh state, and of the run behind them. t is a valid table, v version 10 or 20. Assumes nothing.
use Prim.Native.Nat.{ℕ, zero, suc, ◌≤◌}
use mathlib.Core.Path.{◌≡◌, ◌∙◌, refl, sym, ap}
use mathlib.Core.Bool.{true, ◌&&◌}
use mathlib.Core.List.{List, [], ◌∷◌, ◌++◌}
use lib.Dec.{eqb}
use lib.ListN.{length, take}
use borrow.Author.Tests.{eqb-true}
use Rattle.base_words.specs.Words.{at, greatest}
use Rattle.base_words.specs.Pick.{if◌then◌or_else◌}
use Rattle.base_words.proofs.AllLaws.{and_left, and_right}
use Rattle.base_words.proofs.PickLaws.{and_true}
use Rattle.base_state.specs.Versions.{is_version}
use Rattle.base_state.specs.Instances.{instances_of, queues_of}
use Rattle.state_fits.specs.Fresh.{fresh}
use Rattle.proof_steps.proofs.Choices.{chosen}
use Rattle.step_run.specs.Run.{ran}
use Rattle.log_text.specs.Logs.{log_most, lines_of}
use Rattle.log_write.specs.Xes.{log_text}
use Rattle.log_judge.specs.declared.Judged.{Judged}
use Rattle.log_judge.specs.Judge.{Taking, lawful, left_by_lines}
use Rattle.engine.specs.Engine.{RanTo, valid, asked_number, fitting, ended, ran_to}
use Rattle.engine.specs.Calls.{Act, a_step, a_post, did, all_accepted, after, Valid, judged_to}
use Rattle.engine.specs.Replay.{left_to, replayed_to}
use Rattle.engine.proofs.CallLaws.{asked_good}
use Rattle.engine.proofs.KeepsValid.{did-valid, after-valid, fresh-valid}
use Rattle.proof_demands.specs.Demands.{run_steps, ran_given}
use Rattle.proof_demands.proofs.RunSteps.{run_is_steps}
use Rattle.proof_demands.proofs.Replays.{replay_answer, replay_left}
use Rattle.proof_logs.specs.Told.{line_told, told, AllPosted, AllWords}
use Rattle.proof_logs.proofs.Traces.{Each, Entry}
use Rattle.proof_logs.proofs.XesReads.{printed_log_reads}
use Rattle.proof_logs.proofs.ToldLawful.{act_again}
use Rattle.proof_logs.proofs.OwnLog.{fresh_words, told_log, whole_accepted, whole_posted}
use Rattle.proof_logs.proofs.RunLog.{told_entries}
use Rattle.proof_repair.proofs.Repairs.{IsLog}
use Rattle.proof_replay.proofs.LineLaws.{take as line}

module _ (t : List ℕ) where
  -- the lines of accepted calls leave the state after them
  pub told_left : (acts : List Act) (z : List ℕ) → Valid t z → all_accepted t acts z ≡ true → AllWords t acts z → left_by_lines (line t) (told t acts z) z ≡ after t acts z
  unfolding told all_accepted AllWords left_by_lines after
  told_left [] z v h words = refl
  told_left (a ∷ rest) z v h words =
      let e : (did t a z).number ≡ 0 = eqb-true (did t a z).number 0 (and_left (eqb (did t a z).number 0) (all_accepted t rest (did t a z).state) h) in
      ap (λ (x : Taking). left_by_lines (line t) (told t rest (did t a z).state) x.state) (act_again t z v a e words.0)
      ∙ told_left rest (did t a z).state (did-valid t a z v) (and_right (eqb (did t a z).number 0) (all_accepted t rest (did t a z).state) h) words.1

  -- calls one after the other
  pub after_both : (xs ys : List Act) (z : List ℕ) → after t (xs ++ ys) z ≡ after t ys (after t xs z)
  unfolding after
  after_both [] ys z = refl
  after_both (x ∷ xs) ys z = after_both xs ys (did t x z).state

  -- the first k of them
  pub first_accepted : (k : ℕ) (acts : List Act) (z : List ℕ) → all_accepted t acts z ≡ true → all_accepted t (take k acts) z ≡ true
  unfolding all_accepted
  first_accepted zero acts z h = refl
  first_accepted (suc k) [] z h = refl
  first_accepted (suc k) (a ∷ acts) z h =
      and_true (eqb (did t a z).number 0) (all_accepted t (take k acts) (did t a z).state) (and_left (eqb (did t a z).number 0) (all_accepted t acts (did t a z).state) h)
      (first_accepted k acts (did t a z).state (and_right (eqb (did t a z).number 0) (all_accepted t acts (did t a z).state) h))

  pub first_posted : (k : ℕ) (acts : List Act) → AllPosted acts → AllPosted (take k acts)
  unfolding AllPosted
  first_posted zero acts p = tt
  first_posted (suc k) [] p = tt
  first_posted (suc k) (a_step n ∷ acts) p = first_posted k acts p
  first_posted (suc k) (a_post name g ∷ acts) p = (p.0, first_posted k acts p.1)

  pub first_told : (k : ℕ) (acts : List Act) (z : List ℕ) → take k (told t acts z) ≡ told t (take k acts) z
  unfolding told
  first_told zero acts z = refl
  first_told (suc k) [] z = refl
  first_told (suc k) (a ∷ acts) z = ap (λ (l : List (List ℕ)). line_told t a z ∷ l) (first_told k acts (did t a z).state)

  -- A LOG b THAT HAS THE LINES of calls accepted from the fresh state; small is what the type of a lent table says
  module _ (right : valid t ≡ true) (v : ℕ) (known : is_version v ≡ true) (small : (i : ℕ) → at t i ≤ greatest) where
    pub asked : asked_number t v ≡ 0
    asked = asked_good t v right known

    module _ (acts : List Act) (accepted : all_accepted t acts (fresh t v) ≡ true) (posted : AllPosted acts) where
      words : AllWords t acts (fresh t v)
      words = fresh_words t v asked small acts accepted posted

      pub entries : Each Entry (told t acts (fresh t v))
      entries = told_entries t acts (fresh t v) (fresh-valid t v asked) accepted words

      pub told_replayed : (b : List ℕ) → IsLog b → lines_of b ≡ told t acts (fresh t v) → (z : List ℕ) → replayed_to t v b z ≡ record { answer = lawful; state = after t acts (fresh t v) }
      unfolding left_to
      told_replayed b l lines z =
          let e : judged_to t v b ≡ lawful = told_log t v asked small acts accepted posted b l.0 l.1 lines in
          let j : (replayed_to t v b z).answer ≡ lawful = replay_answer t v b z ∙ e in
          let s : (replayed_to t v b z).state ≡ after t acts (fresh t v) =
          replay_left t v b z (ap (λ (d : Judged). d.number) e)
          ∙ ap (λ (ws : List (List ℕ)). left_by_lines (line t) ws (fresh t v)) lines
          ∙ told_left acts (fresh t v) (fresh-valid t v asked) accepted words in
          λ i. record { answer = j i; state = s i }

      -- THE LOG AS IT IS PRINTED, with whatever moments
      module _ (moments : ℕ → ℕ) where
        abbrev printed : List ℕ
        printed = log_text moments (told t acts (fresh t v))

        pub printed_log : length printed ≤ log_most → IsLog printed
        printed_log short = (length printed, (printed_log_reads moments (told t acts (fresh t v)) entries short).whole)

        pub own_log_replayed : length printed ≤ log_most → (z : List ℕ) → replayed_to t v printed z ≡ record { answer = lawful; state = after t acts (fresh t v) }
        own_log_replayed short = told_replayed printed (printed_log short) (printed_log_reads moments (told t acts (fresh t v)) entries short).lines_are

    -- and with a run behind them: the state that the run left
    module _ (acts : List Act) (accepted : all_accepted t acts (fresh t v) ≡ true) (posted : AllPosted acts) (limit : ℕ) where
      abbrev reached : List ℕ
      reached = after t acts (fresh t v)

      abbrev whole : List Act
      whole = acts ++ run_steps t limit reached

      reached_valid : Valid t reached
      reached_valid = after-valid t acts (fresh t v) (fresh-valid t v asked)

      run_left : (ran_to t reached limit).state ≡ after t (run_steps t limit reached) reached
      unfolding ran_to ran_given if◌then◌or_else◌ after
      run_left =
          ap (λ (r : RanTo). r.state) (chosen {A = RanTo} (fitting t reached) (ended (ran t limit (instances_of reached) (queues_of reached))) _ reached_valid.fits ∙ run_is_steps t limit reached reached_valid)

      pub run_log_replayed : (moments : ℕ → ℕ) → length (log_text moments (told t whole (fresh t v))) ≤ log_most → (z : List ℕ)
          → replayed_to t v (log_text moments (told t whole (fresh t v))) z ≡ record { answer = lawful; state = (ran_to t reached limit).state }
      run_log_replayed moments short z =
          let s : after t whole (fresh t v) ≡ (ran_to t reached limit).state = after_both acts (run_steps t limit reached) (fresh t v) ∙ sym run_left in
          own_log_replayed whole (whole_accepted t v asked small acts accepted posted limit) (whole_posted t v asked small acts accepted posted limit) moments short z
          ∙ (λ i. record { answer = lawful; state = s i })
