-- THE LOG OF A RUN'S OWN LINES IS LAWFUL: of calls that were accepted from the fresh state, and of the run behind them. t is a valid table, v version 10 or 20, b a log that has those lines. Assumes nothing.
use Rattle.std.specs.Prelude.{Ok}
use Prim.Native.Nat.{ℕ, zero, suc, ◌≤◌}
use mathlib.Core.Path.{◌≡◌, ◌∙◌, refl, ap}
use mathlib.Core.Bool.{true}
use mathlib.Core.List.{List, [], ◌∷◌, ◌++◌}
use lib.Dec.{eqb}
use Rattle.base_words.specs.Words.{at, greatest}
use Rattle.base_words.specs.Pick.{if◌then◌or_else◌}
use Rattle.base_words.proofs.AllLaws.{and_left, and_right}
use Rattle.base_words.proofs.PickLaws.{and_true}
use Rattle.state_fits.specs.Fresh.{fresh}
use Rattle.proof_steps.proofs.Choices.{by_choice}
use Rattle.log_text.specs.Logs.{scan, lines_of}
use Rattle.log_judge.specs.Judge.{line_taken, lawful, judged_by, judged_end, judged_from}
use Rattle.engine.specs.Engine.{asked_number, stepped, posted_to, listed_at}
use Rattle.engine.specs.Calls.{Act, a_step, a_post, did, all_accepted, after, Valid, judged_to}
use Rattle.engine.proofs.CallLaws.{asked_known}
use Rattle.engine.proofs.KeepsValid.{after-valid, fresh-valid}
use Rattle.proof_demands.specs.Demands.{run_steps}
use Rattle.proof_demands.proofs.RunSteps.{run_accepted}
use Rattle.proof_logs.specs.Told.{told, AllPosted, AllWords}
use Rattle.proof_logs.proofs.ToldLawful.{told-lawful}
use Rattle.proof_logs.proofs.WordSteps.{version_small, fresh_worded, whole_words, words_hold}

module _ (t : List ℕ) where
  -- calls, and others behind them
  both_accepted : (xs ys : List Act) (z : List ℕ) → all_accepted t xs z ≡ true → all_accepted t ys (after t xs z) ≡ true → all_accepted t (xs ++ ys) z ≡ true
  unfolding all_accepted after
  both_accepted [] ys z a b = b
  both_accepted (x ∷ xs) ys z a b =
      and_true (eqb (did t x z).number 0) (all_accepted t (xs ++ ys) (did t x z).state) (and_left (eqb (did t x z).number 0) (all_accepted t xs (did t x z).state) a)
      (both_accepted xs ys (did t x z).state (and_right (eqb (did t x z).number 0) (all_accepted t xs (did t x z).state) a) b)

  both_posted : (xs ys : List Act) → AllPosted xs → AllPosted ys → AllPosted (xs ++ ys)
  unfolding AllPosted
  both_posted [] ys a b = b
  both_posted (a_step n ∷ xs) ys a b = both_posted xs ys a b
  both_posted (a_post name g ∷ xs) ys a b = (a.0, both_posted xs ys a.1 b)

  -- a run posts nothing
  run_posted : (limit : ℕ) (z : List ℕ) → AllPosted (run_steps t limit z)
  unfolding run_steps AllPosted
  run_posted zero z = tt
  run_posted (suc limit) z =
      by_choice AllPosted (eqb (listed_at t z 0).number 0) (a_step (listed_at t z 0).name ∷ run_steps t limit (did t (a_step (listed_at t z 0).name) z).state) []
      (λ e. run_posted limit (did t (a_step (listed_at t z 0).name) z).state)
      (λ e. tt)

  -- a text that is a log is judged by its lines
  pub log_judged : (v : ℕ) → asked_number t v ≡ 0 → (b : List ℕ) (q : ℕ) → (scan b).end ≡ Ok q → judged_to t v b ≡ judged_by (line_taken (stepped t) (posted_to t)) (lines_of b) 0 (fresh t v)
  unfolding judged_to judged_from judged_end if◌then◌or_else◌
  log_judged v asked b q e = rw (asked, e) refl

  -- the table is valid and v a version that there is; small is what the type of a lent table says
  module _ (v : ℕ) (asked : asked_number t v ≡ 0) (small : (i : ℕ) → at t i ≤ greatest) where
    known : v ≤ greatest
    known = version_small v (asked_known t v asked)

    pub fresh_words : (acts : List Act) → all_accepted t acts (fresh t v) ≡ true → AllPosted acts → AllWords t acts (fresh t v)
    fresh_words acts h posted = words_hold t small acts (fresh t v) (fresh-valid t v asked) (whole_words (fresh t v) (fresh_worded t v known)) h posted

    -- calls that were accepted from the fresh state
    pub told_log : (acts : List Act) → all_accepted t acts (fresh t v) ≡ true → AllPosted acts
        → (b : List ℕ) (q : ℕ) → (scan b).end ≡ Ok q → lines_of b ≡ told t acts (fresh t v) → judged_to t v b ≡ lawful
    told_log acts h posted b q e lines =
        log_judged v asked b q e
        ∙ ap (λ (ws : List (List ℕ)). judged_by (line_taken (stepped t) (posted_to t)) ws 0 (fresh t v)) lines
        ∙ told-lawful t acts 0 (fresh t v) (fresh-valid t v asked) h (fresh_words acts h posted)

    -- "a log made of a run's own lines .. is lawful (for every model, state reached from fresh, and limit)"
    module _ (acts : List Act) (accepted : all_accepted t acts (fresh t v) ≡ true) (posted : AllPosted acts) (limit : ℕ) where
      abbrev whole : List Act
      whole = acts ++ run_steps t limit (after t acts (fresh t v))

      reached : Valid t (after t acts (fresh t v))
      reached = after-valid t acts (fresh t v) (fresh-valid t v asked)

      pub whole_accepted : all_accepted t whole (fresh t v) ≡ true
      whole_accepted = both_accepted acts (run_steps t limit (after t acts (fresh t v))) (fresh t v) accepted (run_accepted t limit (after t acts (fresh t v)) reached)

      pub whole_posted : AllPosted whole
      whole_posted = both_posted acts (run_steps t limit (after t acts (fresh t v))) posted (run_posted limit (after t acts (fresh t v)))

      pub own_log_lawful : (b : List ℕ) (q : ℕ) → (scan b).end ≡ Ok q → lines_of b ≡ told t whole (fresh t v) → judged_to t v b ≡ lawful
      own_log_lawful b q e lines = told_log whole whole_accepted whole_posted b q e lines
