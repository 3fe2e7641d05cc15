-- NO CALL ANSWERS 10, 25 OR 26 to a table that was read, a state that the engine made of it, by fresh for version 10 or 20 or out of a lawful log, then by any steps, posts, runs, polls and further logs, and the records that it left beside it, which are
-- what a count over it gives. Assumes nothing.
use Prim.Native.Nat.{ℕ}
use mathlib.Core.Path.{◌≡◌, refl, sym, ◌∙◌, ap, subst}
use mathlib.Core.Bool.{Bool, true, false, not, ◌&&◌, false≢true}
use mathlib.Core.List.{List, [], ◌∷◌}
use native.Mathlib.Omega.{arith}
use borrow.Author.Tests.{eqb-false}
use lib.Dec.{eqb, ltb}
use lib.ListN.{length}
use Rattle.base_words.specs.Each.{each}
use Rattle.base_words.specs.Pick.{if◌then◌or_else◌}
use Rattle.base_table.specs.Table.{pool_count}
use Rattle.base_state.specs.Instances.{instances_of, queues_of}
use Rattle.base_state.specs.Versions.{is_version}
use Rattle.meaning.specs.declared.Name.{Name}
use Rattle.meaning.specs.declared.Tuple.{Tuple}
use Rattle.meaning.specs.Post.{post_refusals}
use Rattle.meaning.specs.Step.{refusals_at, refusals}
use Rattle.text_read.specs.Notation.{read_into}
use Rattle.write_shown.specs.Shown.{shown_table}
use Rattle.proof_steps.proofs.Choices.{by_choice, chosen as picked}
use Rattle.engine.specs.declared.Verdict.{Verdict}
use Rattle.state_figures.specs.Figures.{counted}
use Rattle.step_poll.specs.declared.Polled.{Polled}
use Rattle.step_poll.specs.Items.{items_most, acts_in}
use Rattle.step_poll.specs.Poll.{Polling, one_before, polled_by, polled_from}
use Rattle.engine.specs.declared.Ran.{Ran}
use Rattle.engine.specs.Engine.{valid, verdict_of, asked_number, freshened, fitting, lent_number, Stepped, posted_to, listed_at, written_to}
use Rattle.engine.specs.Desk.{stepped_at, ran_at, polled_at, figured_to}
use Rattle.engine.specs.Calls.{Act, a_step, a_post, did, Valid, polled_to, judged_to}
use Rattle.engine.specs.Profile.{nested_of}
use Rattle.engine.specs.Replay.{replayed_to, resumed_to}
use Rattle.engine.proofs.CallLaws.{lent_zero, asked_good}
use Rattle.engine.proofs.ProfileLaws.{by_nested}
use Rattle.engine.proofs.KeepsValid.{did-valid}
use Rattle.proof_valid.proofs.KeepsFitting.{freshened-valid, run_valid}
use Rattle.proof_demands.specs.Demands.{Made, afresh, by_act, by_run, by_poll, Agrees, Right, NeverBad, accepted_steps}
use Rattle.proof_demands.proofs.Numbers.{first_among, fresh_number}
use Rattle.proof_demands.proofs.StatesLeft.{step_number, post_number}
use Rattle.proof_demands.proofs.ListAndRun.{list_number, run_number_is}
use Rattle.proof_demands.proofs.PollSteps.{by_first, polled_valid}
use Rattle.proof_demands.proofs.AtDesk.{step_agrees, run_agrees, poll_agrees, figured_zero}
use Rattle.proof_demands.proofs.Judgements.{judged_among}
use Rattle.proof_demands.proofs.Replays.{replay_answer, resume_among}
use Rattle.proof_demands.proofs.ReadAndWrite.{written_number}
use Rattle.proof_demands.proofs.TextsAndTables.{read_valid, read_then_check}

-- a number that is neither 10 nor 25 nor 26
abbrev Other : ℕ → Bool
Other k = not (eqb k 10) && not (eqb k 25) && not (eqb k 26)

other : (k : ℕ) → Other k ≡ true → Right k
other k h = (no 10 refl, no 25 refl, no 26 refl)
  where
    no : (j : ℕ) → Other j ≡ false → k ≡ j → ⊥
    no j f e = absurd (false≢true (sym f ∙ subst (λ (k : ℕ). Other k ≡ true) e h))

-- the number of a version that there is
asked_other : (t : List ℕ) (v : ℕ) → valid t ≡ true → is_version v ≡ true → Other (asked_number t v) ≡ true
asked_other t v h k = rw (asked_good t v h k)

-- EVERY STATE THAT IS MADE IS VALID
pub made_valid : (t : List ℕ) → valid t ≡ true → (z : List ℕ) → Made t z → Valid t z
made_valid t v _ (afresh version known z) = freshened-valid t v version known z
made_valid t v _ (by_act {z} a m) = did-valid t a z (made_valid t v z m)
made_valid t v _ (by_run {z} limit m) = run_valid t z (made_valid t v z m) limit
made_valid t v _ (by_poll {z} w count m) = polled_valid t z (made_valid t v z m) w count

act_other : (t : List ℕ) (a : Act) (z : List ℕ) → Valid t z → Other (did t a z).number ≡ true
unfolding refusals refusals_at post_refusals each
act_other t (a_step n) z v = rw (step_number t z v n) (first_among Other (refusals t (instances_of z) (queues_of z) n) refl refl)
act_other t (a_post name g) z v = rw (post_number t z v name g) (first_among Other (post_refusals (queues_of z) name g) refl refl)

module _ (t z : List ℕ) (v : Valid t z) where
  abbrev rs : List (List ℕ)
  rs = counted t (instances_of z)

  agrees : Agrees t z rs
  agrees = record { long = v.long; same = refl }

  step_other : (n : Name) → Right (stepped_at t z rs n).done.answer.number
  unfolding did
  step_other n =
      let o = stepped_at t z rs n in
      other o.done.answer.number
      (ap (λ (x : Stepped). Other x.answer.number) (step_agrees t z rs agrees n o.done.answer o.done.state o.records refl).0 ∙ act_other t (a_step n) z v)

  post_other : (name : ℕ) (g : Tuple) → Right (posted_to t z name g).number
  unfolding did
  post_other name g = other (posted_to t z name g).number (act_other t (a_post name g) z v)

  list_other : (k : ℕ) → Right (listed_at t z k).number
  list_other k =
      other (listed_at t z k).number
      (rw (list_number t z v k) (by_choice (λ (j : ℕ). Other j ≡ true) (ltb k (accepted_steps t z)) 0 6 (λ b. refl) (λ b. refl)))

  run_other : (limit : ℕ) → Right (ran_at t z rs limit).done.number
  run_other limit =
      let o = ran_at t z rs limit in
      let r : Ran = record { number = o.done.number; steps = o.done.steps; left = o.done.left } in
      let n = (run_number_is t z limit r o.done.state (run_agrees t z rs agrees limit r o.done.state o.records refl).0).0 in
      other o.done.number (ap Other (n ∙ lent_zero t z v.fits))

  figures_other : (rs : List (List ℕ)) → length rs ≡ pool_count t → Right (figured_to t z rs).number
  figures_other rs l = other (figured_to t z rs).number (ap Other (figured_zero t z rs v.fits l))

-- a later item neither: an accepted one leaves a valid state
polled_other : (t : List ℕ) (acts : List Act) (z : List ℕ) → Valid t z → Other (polled_by (did t) acts z).number ≡ true
unfolding polled_by one_before
polled_other t [] z v = refl
polled_other t (a ∷ rest) z v =
    by_first t (λ (p : Polling). Other p.number ≡ true) a rest z
    (λ e. polled_other t rest (did t a z).state (did-valid t a z v))
    (λ e. act_other t a z v)

poll_on_other : (t z : List ℕ) → Valid t z → (w : List ℕ) (count : ℕ) → Other (polled_to t z w count).number ≡ true
unfolding polled_to polled_from
poll_on_other t z v w count =
    by_choice (λ (p : Polling). Other p.number ≡ true) (ltb items_most count) (record { number = 22; accepted = 0; state = z }) _ (λ b. refl)
    (λ b.
    by_choice (λ (p : Polling). Other p.number ≡ true) (eqb (lent_number t z) 0) (polled_by (did t) (acts_in w count) z)
    (record { number = lent_number t z; accepted = 0; state = z })
    (λ b. polled_other t (acts_in w count) z v)
    (λ b. absurd (eqb-false (lent_number t z) 0 b (lent_zero t z v.fits))))

poll_other : (t z : List ℕ) → Valid t z → (w : List ℕ) (count : ℕ) → Right (polled_at t z (counted t (instances_of z)) w count).done.number
poll_other t z v w count =
    let o = polled_at t z (rs t z v) w count in
    let r : Polled = record { number = o.done.number; accepted = o.done.accepted } in
    other o.done.number
    (ap (λ (p : Polling). Other p.number) (poll_agrees t z (rs t z v) (agrees t z v) w count r o.done.state o.records refl).0 ∙ poll_on_other t z v w count)

judge_other : (t : List ℕ) → valid t ≡ true → (v : ℕ) → is_version v ≡ true → (log : List ℕ) → Right (judged_to t v log).number
judge_other t h v k log = other (judged_to t v log).number (judged_among t v log Other refl refl refl (asked_good t v h k))

replay_other : (t : List ℕ) → valid t ≡ true → (v : ℕ) → is_version v ≡ true → (log z : List ℕ) → Right (replayed_to t v log z).answer.number
replay_other t h v k log z = rw (replay_answer t v log z) (judge_other t h v k log)

resume_other : (t z : List ℕ) → Valid t z → (log : List ℕ) → Right (resumed_to t z log).answer.number
resume_other t z v log = other (resumed_to t z log).answer.number (resume_among t z v.fits log Other refl refl refl)

write_other : (t out : List ℕ) → valid t ≡ true → Right (written_to t out).number
write_other t out v =
    other (written_to t out).number
    (rw (written_number t out ∙ picked (valid t) (if ltb (length out) (length (shown_table t)) then 5 or_else 0) 10 v)
    (by_choice (λ (j : ℕ). Other j ≡ true) (ltb (length out) (length (shown_table t))) 5 0 (λ b. refl) (λ b. refl)))

nested_other : (t : List ℕ) → valid t ≡ true → Right (nested_of t).number
nested_other t v =
    other (nested_of t).number (by_nested (λ (o : Verdict). Other o.number ≡ true) t (λ _ l. refl) (λ _ l. refl) (λ b. absurd (false≢true (sym b ∙ v))))

-- NO CALL ANSWERS 10, 25 OR 26
pub never_bad : (text t₀ : List ℕ) → (read_into text t₀).number ≡ 0 → (z : List ℕ) → Made (read_into text t₀).table z → NeverBad (read_into text t₀).table z
never_bad text t₀ n z m =
    let t : List ℕ = (read_into text t₀).table in
    let v : valid t ≡ true = (read_valid text t₀ n).0 in
    let s : Valid t z = made_valid t v z m in
    record {
      check = other (verdict_of t).number (ap (λ (o : Verdict). Other o.number) (read_then_check text t₀ n));
      fresh = λ version known y. other (freshened t version y).number (ap Other (fresh_number t version y) ∙ asked_other t version v known);
      step = step_other t z s;
      post = post_other t z s;
      list = list_other t z s;
      run = run_other t z s;
      write = λ out. write_other t out v;
      poll = poll_other t z s;
      figures = figures_other t z s;
      judge = judge_other t v;
      nested = nested_other t v;
      replay = replay_other t v;
      resume = resume_other t z s;
    }
