-- THE LOG THAT A RUN IS PRINTED AS IS LAWFUL: calls accepted from the fresh state, and the run behind them, each a line, in the text of a log, with whatever moments. t is a valid table, v version 10 or 20. Assumes nothing.
use Prim.Native.Nat.{ℕ, ◌≤◌}
use mathlib.Core.Path.{◌≡◌}
use mathlib.Core.Bool.{true}
use mathlib.Core.List.{List, [], ◌∷◌, ◌++◌}
use lib.Dec.{eqb}
use lib.ListN.{length}
use borrow.Author.Tests.{eqb-true}
use Rattle.base_words.specs.Words.{at, greatest}
use Rattle.base_words.proofs.AllLaws.{and_left, and_right}
use Rattle.base_state.specs.Versions.{is_version}
use Rattle.state_fits.specs.Fresh.{fresh}
use Rattle.log_text.specs.Logs.{log_most}
use Rattle.log_write.specs.Xes.{log_text}
use Rattle.log_judge.specs.Judge.{lawful}
use Rattle.engine.specs.Engine.{valid, asked_number, stepped}
use Rattle.engine.specs.Calls.{Act, a_step, a_post, did, all_accepted, after, Valid, judged_to}
use Rattle.engine.proofs.CallLaws.{asked_good}
use Rattle.engine.proofs.KeepsValid.{did-valid, fresh-valid}
use Rattle.proof_demands.specs.Demands.{run_steps}
use Rattle.log_pieces.specs.Pieces.{post_line}
use Rattle.proof_logs.specs.Told.{line_told, told, AllPosted, AllWords}
use Rattle.proof_logs.proofs.Events.{Plain}
use Rattle.proof_logs.proofs.Traces.{Each, Entry}
use Rattle.proof_logs.proofs.PlainLines.{step_plain, post_plain}
use Rattle.proof_logs.proofs.XesReads.{printed_log_reads}
use Rattle.proof_logs.proofs.ToldLawful.{act_right}
use Rattle.proof_logs.proofs.OwnLog.{fresh_words, whole_accepted, whole_posted, own_log_lawful}

module _ (t : List ℕ) where
  line_plain : (a : Act) (z : List ℕ) → Plain (line_told t a z)
  unfolding line_told post_line
  line_plain (a_step n) z = step_plain n (stepped t z n).answer
  line_plain (a_post name g) z = post_plain name g

  pub told_entries : (acts : List Act) (z : List ℕ) → Valid t z → all_accepted t acts z ≡ true → AllWords t acts z → Each Entry (told t acts z)
  unfolding told all_accepted AllWords
  told_entries [] z v h words = tt
  told_entries (a ∷ rest) z v h words =
      let e : (did t a z).number ≡ 0 = eqb-true (did t a z).number 0 (and_left (eqb (did t a z).number 0) (all_accepted t rest (did t a z).state) h) in (
        record { plain = line_plain a z; right = act_right t z v a e words.0 },
        told_entries rest (did t a z).state (did-valid t a z v) (and_right (eqb (did t a z).number 0) (all_accepted t rest (did t a z).state) h) words.1,
      )

  -- "a log made of a run's own lines, in the text that the run program prints, is lawful (for every model, state reached from fresh, and limit)", under the version of that state; small is what the type of a lent table says
  module _ (right : valid t ≡ true) (v : ℕ) (known : is_version v ≡ true) (small : (i : ℕ) → at t i ≤ greatest) (acts : List Act) (accepted : all_accepted t acts (fresh t v) ≡ true) (posted : AllPosted acts) (limit : ℕ) (moments : ℕ → ℕ) where
    abbrev whole : List Act
    whole = acts ++ run_steps t limit (after t acts (fresh t v))

    abbrev printed : List ℕ
    printed = log_text moments (told t whole (fresh t v))

    pub run_log_lawful : length printed ≤ log_most → judged_to t v printed ≡ lawful
    run_log_lawful short =
        let asked : asked_number t v ≡ 0 = asked_good t v right known in
        let taken : all_accepted t whole (fresh t v) ≡ true = whole_accepted t v asked small acts accepted posted limit in
        let words : AllWords t whole (fresh t v) = fresh_words t v asked small whole taken (whole_posted t v asked small acts accepted posted limit) in
        let back = printed_log_reads moments (told t whole (fresh t v)) (told_entries whole (fresh t v) (fresh-valid t v asked) taken words) short in
        own_log_lawful t v asked small acts accepted posted limit printed (length printed) back.whole back.lines_are
