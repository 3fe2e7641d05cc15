-- LENGTHS: with those that the blocks have, a `cv_` function promises what the call of `engine` promises, so that all that is proved of that holds of it; with another it is 10 (22 for a poll of too many items), and what was
-- lent stays. Assumes nothing.
use Prim.Native.Nat.{ℕ}
use mathlib.Core.Path.{◌≡◌, refl, ◌∙◌, ap}
use mathlib.Core.Bool.{false}
use lib.Dec.{eqb}
use Rattle.base_words.specs.Pick.{if◌then◌or_else◌}
use Rattle.base_table.specs.Places.{table_words}
use Rattle.base_state.specs.Places.{state_words}
use Rattle.meaning.specs.declared.Answer.{Answer}
use Rattle.meaning.specs.Tuples.{empty}
use Rattle.step_names.specs.Names.{blank_name}
use Rattle.proof_steps.proofs.Choices.{passed}
use Rattle.meaning.specs.declared.Name.{Name}
use Rattle.meaning.specs.declared.Tuple.{Tuple}
use Rattle.step_list.specs.declared.Listed.{Listed}
use Rattle.step_poll.specs.declared.Polled.{Polled}
use Rattle.step_poll.specs.Poll.{Polling}
use Rattle.state_figures.specs.Figures.{Figured}
use Rattle.text_read.specs.declared.Reading.{Reading}
use Rattle.text_read.specs.Notation.{ReadInto, read_into}
use Rattle.draw_read.specs.Drawings.{draw_into}
use Rattle.log_judge.specs.declared.Judged.{Judged}
use Rattle.engine.specs.declared.Verdict.{Verdict}
use Rattle.engine.specs.declared.Ran.{Ran}
use Rattle.engine.specs.declared.Written.{Written}
use Rattle.engine.specs.Engine.{verdict_of, Left, freshened, Stepped, posted_to, listed_at, RanTo, WrittenTo, written_to}
use Rattle.engine.specs.Calls.{judged_to}
use Rattle.engine.specs.Desk.{AtDesk, stepped_at, ran_at, polled_at, figured_to}
use Rattle.engine.specs.Profile.{nested_of}
use Rattle.engine.specs.Replay.{Replayed, replayed_to, resumed_to}
use Rattle.cuttingvale.specs.declared.Taken.{Taken}
use Rattle.cuttingvale.specs.Boundary.{are_whole, TakenTo, traffic_number, told_to_c, told_at, poll_words, are_lent, lent_wrong, checked_by, freshened_by, stepped_by, posted_by, listed_by, ran_lent, figured_by, read_by, drawn_by, written_by, polled_lent, judged_lent, replayed_by, resumed_by, nested_by}
use Rattle.cuttingvale.proofs.cv_check.Reads as check
use Rattle.cuttingvale.proofs.cv_fresh.Reads as fresh
use Rattle.cuttingvale.proofs.cv_step.Reads as step
use Rattle.cuttingvale.proofs.cv_post.Reads as post
use Rattle.cuttingvale.proofs.cv_list.Reads as list
use Rattle.cuttingvale.proofs.cv_run.Reads as run
use Rattle.cuttingvale.proofs.cv_figures.Reads as figures
use Rattle.cuttingvale.proofs.cv_read.Reads as read
use Rattle.cuttingvale.proofs.cv_draw.Reads as draw
use Rattle.cuttingvale.proofs.cv_write.Reads as write
use Rattle.cuttingvale.proofs.cv_poll.Reads as poll
use Rattle.cuttingvale.proofs.cv_judge.Reads as judge
use Rattle.cuttingvale.proofs.cv_replay.Reads as replay
use Rattle.cuttingvale.proofs.cv_resume.Reads as resume
use Rattle.cuttingvale.proofs.cv_nested.Reads as nested
use Rattle.proof_demands.specs.Promises.{Checks, Freshens, Steps, Posts, Lists, Runs, Reads, Draws, Writes, Polls, Figures, Judges, Replays, Resumes, Nests}
use Rattle.proof_demands.proofs.Promises.{Lent, MutLent, Desk, One, Two, Three, Four}

-- A TABLE
module _ (κ : One) (t t₁ : Lent) (n₁ : ℕ) (r : Verdict) where
  pub check_whole : check.Post κ (t, (table_words, tt)) r (t₁, (n₁, tt)) ≡ Checks t.now r
  unfolding checked_by if◌then◌or_else◌
  check_whole = refl

  pub nested_whole : nested.Post κ (t, (table_words, tt)) r (t₁, (n₁, tt)) ≡ Nests t.now r
  unfolding nested_by if◌then◌or_else◌
  nested_whole = refl

  module _ (n : ℕ) (wrong : eqb n table_words ≡ false) where
    pub check_wrong : check.Post κ (t, (n, tt)) r (t₁, (n₁, tt)) → r ≡ record { number = 10; beside = 0 }
    unfolding checked_by
    check_wrong p = p ∙ passed (eqb n table_words) (verdict_of t.now) (record { number = 10; beside = 0 }) wrong

    pub nested_wrong : nested.Post κ (t, (n, tt)) r (t₁, (n₁, tt)) → r ≡ record { number = 10; beside = 0 }
    unfolding nested_by
    nested_wrong p = p ∙ passed (eqb n table_words) (nested_of t.now) (record { number = 10; beside = 0 }) wrong

-- A TABLE, AND A TEXT, A BUFFER OR A LOG
module _ (κ : Two) (t t₁ : MutLent) (n₁ : ℕ) (x x₁ : Lent) where
  pub read_whole : (r : Reading) → read.Post κ (x, (t, (table_words, tt))) r (x₁, (t₁, (n₁, tt))) ≡ Reads x.now t.now r t₁.now
  unfolding read_by if◌then◌or_else◌
  read_whole r = refl

  pub draw_whole : (r : Reading) → draw.Post κ (x, (t, (table_words, tt))) r (x₁, (t₁, (n₁, tt))) ≡ Draws x.now t.now r t₁.now
  unfolding drawn_by if◌then◌or_else◌
  draw_whole r = refl

module _ (κ : Two) (t t₁ : Lent) (n₁ : ℕ) (x x₁ : MutLent) where
  pub write_whole : (r : Written) → write.Post κ (t, (table_words, (x, tt))) r (t₁, (n₁, (x₁, tt))) ≡ Writes t.now x.now r x₁.now
  unfolding written_by if◌then◌or_else◌
  write_whole r = refl

module _ (κ : Two) (t t₁ : Lent) (n₁ : ℕ) (x x₁ : Lent) where
  pub judge_whole : (v v₁ : ℕ) (r : Judged) → judge.Post κ (t, (table_words, (v, (x, tt)))) r (t₁, (n₁, (v₁, (x₁, tt)))) ≡ Judges t.now v x.now r
  unfolding judged_lent if◌then◌or_else◌
  judge_whole v v₁ r = refl

module _ (κ : Two) (t t₁ : MutLent) (n₁ : ℕ) (x x₁ : Lent) where
  module _ (n : ℕ) (wrong : eqb n table_words ≡ false) where
    pub read_wrong : (r : Reading) → read.Post κ (x, (t, (n, tt))) r (x₁, (t₁, (n₁, tt))) → (r.number ≡ 10) × (t₁.now ≡ t.now)
    unfolding read_by
    read_wrong r p =
        let o = p ∙ passed {A = ReadInto} (eqb n table_words) (read_into x.now t.now) (record { number = 10; beside = 0; table = t.now }) wrong in
        (ap (λ (d : ReadInto). d.number) o, ap (λ (d : ReadInto). d.table) o)

    pub draw_wrong : (r : Reading) → draw.Post κ (x, (t, (n, tt))) r (x₁, (t₁, (n₁, tt))) → (r.number ≡ 10) × (t₁.now ≡ t.now)
    unfolding drawn_by
    draw_wrong r p =
        let o = p ∙ passed {A = ReadInto} (eqb n table_words) (draw_into x.now t.now) (record { number = 10; beside = 0; table = t.now }) wrong in
        (ap (λ (d : ReadInto). d.number) o, ap (λ (d : ReadInto). d.table) o)

module _ (κ : Two) (t t₁ : Lent) (n₁ : ℕ) (x x₁ : MutLent) where
  module _ (n : ℕ) (wrong : eqb n table_words ≡ false) where
    pub write_wrong : (r : Written) → write.Post κ (t, (n, (x, tt))) r (t₁, (n₁, (x₁, tt))) → (r.number ≡ 10) × (x₁.now ≡ x.now)
    unfolding written_by
    write_wrong r p =
        let o = p ∙ passed {A = WrittenTo} (eqb n table_words) (written_to t.now x.now) (record { number = 10; length = 0; buffer = x.now }) wrong in
        (ap (λ (d : WrittenTo). d.number) o, ap (λ (d : WrittenTo). d.buffer) o)

module _ (κ : Two) (t t₁ : Lent) (n₁ : ℕ) (x x₁ : Lent) where
  module _ (n : ℕ) (wrong : eqb n table_words ≡ false) where
    pub judge_wrong : (v v₁ : ℕ) (r : Judged) → judge.Post κ (t, (n, (v, (x, tt)))) r (t₁, (n₁, (v₁, (x₁, tt)))) → r ≡ record { number = 10; beside = 0; own = 0 }
    unfolding judged_lent
    judge_wrong v v₁ r p = p ∙ passed (eqb n table_words) (judged_to t.now v x.now) (record { number = 10; beside = 0; own = 0 }) wrong

-- A TABLE AND A STATE
module _ (κ : Two) (t t₁ : Lent) (z z₁ : MutLent) (n₁ m₁ : ℕ) where
  pub fresh_whole : (v v₁ r : ℕ) → fresh.Post κ (t, (table_words, (v, (z, (state_words, tt))))) r (t₁, (n₁, (v₁, (z₁, (m₁, tt))))) ≡ Freshens t.now v z.now r z₁.now
  unfolding freshened_by are_whole if◌then◌or_else◌
  fresh_whole v v₁ r = refl

  pub post_whole : (name name₁ : ℕ) (g g₁ : Tuple) (r : ℕ) → post.Post κ (t, (table_words, (z, (state_words, (name, (g, tt)))))) r (t₁, (n₁, (z₁, (m₁, (name₁, (g₁, tt)))))) ≡ Posts t.now z.now name g r z₁.now
  unfolding posted_by are_whole if◌then◌or_else◌
  post_whole name name₁ g g₁ r = refl

module _ (κ : Two) (t t₁ z z₁ : Lent) (n₁ m₁ : ℕ) where
  pub list_whole : (k k₁ : ℕ) (r : Listed) → list.Post κ (t, (table_words, (z, (state_words, (k, tt))))) r (t₁, (n₁, (z₁, (m₁, (k₁, tt))))) ≡ Lists t.now z.now k r
  unfolding listed_by are_whole if◌then◌or_else◌
  list_whole k k₁ r = refl

module _ (κ : Two) (t t₁ : Lent) (z z₁ : MutLent) (n₁ m₁ : ℕ) where
  module _ (n m : ℕ) (wrong : are_whole n m ≡ false) where
    pub fresh_wrong : (v v₁ r : ℕ) → fresh.Post κ (t, (n, (v, (z, (m, tt))))) r (t₁, (n₁, (v₁, (z₁, (m₁, tt))))) → (r ≡ 10) × (z₁.now ≡ z.now)
    unfolding freshened_by
    fresh_wrong v v₁ r p =
        let o = p ∙ passed {A = Left} (are_whole n m) (freshened t.now v z.now) (record { number = 10; state = z.now }) wrong in (ap (λ (d : Left). d.number) o, ap (λ (d : Left). d.state) o)

    pub post_wrong : (name name₁ : ℕ) (g g₁ : Tuple) (r : ℕ) → post.Post κ (t, (n, (z, (m, (name, (g, tt)))))) r (t₁, (n₁, (z₁, (m₁, (name₁, (g₁, tt)))))) → (r ≡ 10) × (z₁.now ≡ z.now)
    unfolding posted_by
    post_wrong name name₁ g g₁ r p =
        let o = p ∙ passed {A = Left} (are_whole n m) (posted_to t.now z.now name g) (record { number = 10; state = z.now }) wrong in (ap (λ (d : Left). d.number) o, ap (λ (d : Left). d.state) o)

module _ (κ : Two) (t t₁ z z₁ : Lent) (n₁ m₁ : ℕ) where
  module _ (n m : ℕ) (wrong : are_whole n m ≡ false) where
    pub list_wrong : (k k₁ : ℕ) (r : Listed) → list.Post κ (t, (n, (z, (m, (k, tt))))) r (t₁, (n₁, (z₁, (m₁, (k₁, tt))))) → r ≡ record { number = 10; name = blank_name }
    unfolding listed_by
    list_wrong k k₁ r p = p ∙ passed (are_whole n m) (listed_at t.now z.now k) (record { number = 10; name = blank_name }) wrong

-- A TABLE, A LOG AND A STATE
module _ (κ : Three) (t t₁ log log₁ : Lent) (z z₁ : MutLent) (n₁ m₁ : ℕ) (r : Judged) where
  pub replay_whole : (v v₁ : ℕ) → replay.Post κ (t, (table_words, (v, (log, (z, (state_words, tt)))))) r (t₁, (n₁, (v₁, (log₁, (z₁, (m₁, tt)))))) ≡ Replays t.now v log.now z.now r z₁.now
  unfolding replayed_by are_whole if◌then◌or_else◌
  replay_whole v v₁ = refl

  pub resume_whole : resume.Post κ (t, (table_words, (z, (state_words, (log, tt))))) r (t₁, (n₁, (z₁, (m₁, (log₁, tt))))) ≡ Resumes t.now z.now log.now r z₁.now
  unfolding resumed_by are_whole if◌then◌or_else◌
  resume_whole = refl

  module _ (n m : ℕ) (wrong : are_whole n m ≡ false) where
    abbrev untold : Replayed
    untold = record { answer = record { number = 10; beside = 0; own = 0 }; state = z.now }

    pub replay_wrong : (v v₁ : ℕ) → replay.Post κ (t, (n, (v, (log, (z, (m, tt)))))) r (t₁, (n₁, (v₁, (log₁, (z₁, (m₁, tt)))))) → (r.number ≡ 10) × (z₁.now ≡ z.now)
    unfolding replayed_by
    replay_wrong v v₁ p =
        let o = p ∙ passed {A = Replayed} (are_whole n m) (replayed_to t.now v log.now z.now) untold wrong in (ap (λ (d : Replayed). d.answer.number) o, ap (λ (d : Replayed). d.state) o)

    pub resume_wrong : resume.Post κ (t, (n, (z, (m, (log, tt))))) r (t₁, (n₁, (z₁, (m₁, (log₁, tt))))) → (r.number ≡ 10) × (z₁.now ≡ z.now)
    unfolding resumed_by
    resume_wrong p =
        let o = p ∙ passed {A = Replayed} (are_whole n m) (resumed_to t.now z.now log.now) untold wrong in (ap (λ (d : Replayed). d.answer.number) o, ap (λ (d : Replayed). d.state) o)

-- AND THE DESK'S RECORDS
module _ (κ : Three) (t t₁ : Lent) (z z₁ : MutLent) (rs rs₁ : Desk) (n₁ m₁ : ℕ) where
  -- the traffic is a number, and the rest of the answer that of the engine's call
  pub step_whole : (s s₁ : Name) (r : Taken) → step.Post κ (t, (table_words, (z, (state_words, (rs, (s, tt)))))) r (t₁, (n₁, (z₁, (m₁, (rs₁, (s₁, tt))))))
      → (a : Answer) × Steps t.now z.now rs.now s a z₁.now rs₁.now × (r ≡ record { number = a.number; traffic = traffic_number a.traffic; name = a.name; tuple = a.tuple })
  unfolding stepped_by are_whole told_at told_to_c if◌then◌or_else◌
  step_whole s s₁ r p =
      let d : AtDesk Stepped = stepped_at t.now z.now rs.now s in (
        d.done.answer,
        (λ i. record { done = record { answer = d.done.answer; state = (p i).done.state }; records = (p i).records }),
        ap (λ (o : AtDesk TakenTo). o.done.answer) p,
      )

  pub run_whole : (limit limit₁ : ℕ) (r : Ran) → run.Post κ (t, (table_words, (z, (state_words, (rs, (limit, tt)))))) r (t₁, (n₁, (z₁, (m₁, (rs₁, (limit₁, tt)))))) ≡ Runs t.now z.now rs.now limit r z₁.now rs₁.now
  unfolding ran_lent are_whole if◌then◌or_else◌
  run_whole limit limit₁ r = refl

module _ (κ : Three) (t t₁ z z₁ : Lent) (rs rs₁ : Desk) (n₁ m₁ : ℕ) where
  pub figures_whole : (r : ℕ) → figures.Post κ (t, (table_words, (z, (state_words, (rs, tt))))) r (t₁, (n₁, (z₁, (m₁, (rs₁, tt))))) ≡ Figures t.now z.now rs.now r rs₁.now
  unfolding figured_by are_whole if◌then◌or_else◌
  figures_whole r = refl

module _ (κ : Three) (t t₁ : Lent) (z z₁ : MutLent) (rs rs₁ : Desk) (n₁ m₁ : ℕ) where
  module _ (n m : ℕ) (wrong : are_whole n m ≡ false) where
    pub step_wrong : (s s₁ : Name) (r : Taken) → step.Post κ (t, (n, (z, (m, (rs, (s, tt)))))) r (t₁, (n₁, (z₁, (m₁, (rs₁, (s₁, tt)))))) → (r.number ≡ 10) × (z₁.now ≡ z.now) × (rs₁.now ≡ rs.now)
    unfolding stepped_by
    step_wrong s s₁ r p =
        let o =
        p
        ∙ passed {A = AtDesk TakenTo} (are_whole n m) (told_at (stepped_at t.now z.now rs.now s)) (record { done = record { answer = record { number = 10; traffic = 0; name = 0; tuple = empty }; state = z.now }; records = rs.now }) wrong in
        (ap (λ (d : AtDesk TakenTo). d.done.answer.number) o, ap (λ (d : AtDesk TakenTo). d.done.state) o, ap (λ (d : AtDesk TakenTo). d.records) o)

    pub run_wrong : (limit limit₁ : ℕ) (r : Ran) → run.Post κ (t, (n, (z, (m, (rs, (limit, tt)))))) r (t₁, (n₁, (z₁, (m₁, (rs₁, (limit₁, tt)))))) → (r.number ≡ 10) × (z₁.now ≡ z.now) × (rs₁.now ≡ rs.now)
    unfolding ran_lent
    run_wrong limit limit₁ r p =
        let o =
        p ∙ passed {A = AtDesk RanTo} (are_whole n m) (ran_at t.now z.now rs.now limit) (record { done = record { number = 10; steps = 0; left = 0; state = z.now }; records = rs.now }) wrong in
        (ap (λ (d : AtDesk RanTo). d.done.number) o, ap (λ (d : AtDesk RanTo). d.done.state) o, ap (λ (d : AtDesk RanTo). d.records) o)

module _ (κ : Three) (t t₁ z z₁ : Lent) (rs rs₁ : Desk) (n₁ m₁ : ℕ) where
  module _ (n m : ℕ) (wrong : are_whole n m ≡ false) where
    pub figures_wrong : (r : ℕ) → figures.Post κ (t, (n, (z, (m, (rs, tt))))) r (t₁, (n₁, (z₁, (m₁, (rs₁, tt))))) → (r ≡ 10) × (rs₁.now ≡ rs.now)
    unfolding figured_by
    figures_wrong r p =
        let o = p ∙ passed {A = Figured} (are_whole n m) (figured_to t.now z.now rs.now) (record { number = 10; records = rs.now }) wrong in (ap (λ (d : Figured). d.number) o, ap (λ (d : Figured). d.records) o)

-- AND THE ITEMS OF A POLL
module _ (κ : Four) (t t₁ : Lent) (z z₁ : MutLent) (w w₁ : Lent) (rs rs₁ : Desk) (n₁ m₁ k₁ count count₁ : ℕ) (r : Polled) where
  pub poll_whole : poll.Post κ (t, (table_words, (z, (state_words, (rs, (w, (poll_words, (count, tt)))))))) r (t₁, (n₁, (z₁, (m₁, (rs₁, (w₁, (k₁, (count₁, tt)))))))) ≡ Polls t.now z.now rs.now w.now count r z₁.now rs₁.now
  unfolding polled_lent are_lent are_whole if◌then◌or_else◌
  poll_whole = refl

  pub poll_wrong : (n m k : ℕ) → are_lent n m k ≡ false → poll.Post κ (t, (n, (z, (m, (rs, (w, (k, (count, tt)))))))) r (t₁, (n₁, (z₁, (m₁, (rs₁, (w₁, (k₁, (count₁, tt))))))))
      → (r.number ≡ lent_wrong count) × (r.accepted ≡ 0) × (z₁.now ≡ z.now) × (rs₁.now ≡ rs.now)
  unfolding polled_lent
  poll_wrong n m k wrong p =
      let o =
      p
      ∙ passed {A = AtDesk Polling} (are_lent n m k) (polled_at t.now z.now rs.now w.now count) (record { done = record { number = lent_wrong count; accepted = 0; state = z.now }; records = rs.now }) wrong in
      (ap (λ (d : AtDesk Polling). d.done.number) o, ap (λ (d : AtDesk Polling). d.done.accepted) o, ap (λ (d : AtDesk Polling). d.done.state) o, ap (λ (d : AtDesk Polling). d.records) o)
