-- HOW FIRM THE PROMISES ARE: any two results that the promise of a public call allows coincide, the words and bytes lent to it included; the promise is
-- the one in the code, its `ensures`. Only read and draw change a table. Assumes nothing.
use Prim.Native.Nat.{ℕ}
use mathlib.Core.Path.{◌≡◌, refl, sym, ◌∙◌, ap, ap₂}
use mathlib.Core.List.{List, [], ◌∷◌}
use Rattle.meaning.specs.declared.Name.{Name}
use Rattle.meaning.specs.declared.Answer.{Answer}
use Rattle.meaning.specs.declared.Tuple.{Tuple}
use Rattle.step_list.specs.declared.Listed.{Listed}
use Rattle.text_read.specs.declared.Reading.{Reading}
use Rattle.text_read.specs.Notation.{ReadInto}
use Rattle.draw_diagnose.specs.declared.Diagnosis.{Diagnosis}
use Rattle.step_poll.specs.declared.Polled.{Polled}
use Rattle.log_judge.specs.declared.Judged.{Judged}
use Rattle.log_repair.specs.declared.Repaired.{Repaired}
use Rattle.log_repair.specs.Repair.{Repair}
use Rattle.step_poll.specs.Poll.{Polling}
use Rattle.engine.specs.declared.Ran.{Ran}
use Rattle.engine.specs.declared.Verdict.{Verdict}
use Rattle.engine.specs.declared.Written.{Written}
use Rattle.state_figures.specs.Figures.{Figured}
use Rattle.engine.specs.Engine.{Left, Stepped, RanTo, WrittenTo}
use Rattle.engine.specs.Desk.{AtDesk}
use Rattle.engine.specs.Replay.{Replayed}
use Rattle.engine.specs.Calls.{Act, a_step, a_post, did, numbers, after}
use Rattle.engine.proofs.check.Reads as check
use Rattle.engine.proofs.fresh.Reads as fresh
use Rattle.engine.proofs.step.Reads as step
use Rattle.engine.proofs.post.Reads as post
use Rattle.engine.proofs.list.Reads as list
use Rattle.engine.proofs.run.Reads as run
use Rattle.engine.proofs.read.Reads as read
use Rattle.engine.proofs.draw.Reads as draw
use Rattle.engine.proofs.diagnose.Reads as diagnose
use Rattle.engine.proofs.write.Reads as write
use Rattle.engine.proofs.poll.Reads as poll
use Rattle.engine.proofs.judge.Reads as judge
use Rattle.engine.proofs.replay.Reads as replay
use Rattle.engine.proofs.resume.Reads as resume
use Rattle.engine.proofs.repair.Reads as repair
use Rattle.engine.proofs.figures.Reads as figures
use Rattle.engine.proofs.nested.Reads as nested
use Rattle.proof_demands.specs.Demands.{Agrees, Allowed, AllAllowed}
use Rattle.proof_demands.proofs.Promises.{Lent, MutLent, Desk, One, Two, Three, Four}
use Rattle.proof_demands.proofs.AtDesk.{step_agrees, post_agrees}

-- each statement takes the promise of the code twice, for what was lent before
pub check_firm : (κ : One) (t t₁ t₂ : Lent) (r₁ r₂ : Verdict) → check.Post κ (t, tt) r₁ (t₁, tt) → check.Post κ (t, tt) r₂ (t₂, tt) → r₁ ≡ r₂
check_firm κ t t₁ t₂ r₁ r₂ p₁ p₂ = p₁ ∙ sym p₂

pub nested_firm : (κ : One) (t t₁ t₂ : Lent) (r₁ r₂ : Verdict) → nested.Post κ (t, tt) r₁ (t₁, tt) → nested.Post κ (t, tt) r₂ (t₂, tt) → r₁ ≡ r₂
nested_firm κ t t₁ t₂ r₁ r₂ p₁ p₂ = p₁ ∙ sym p₂

pub diagnose_firm : (κ : One) (text text₁ text₂ : Lent) (r₁ r₂ : Diagnosis) → diagnose.Post κ (text, tt) r₁ (text₁, tt) → diagnose.Post κ (text, tt) r₂ (text₂, tt) → r₁ ≡ r₂
diagnose_firm κ text text₁ text₂ r₁ r₂ p₁ p₂ = p₁ ∙ sym p₂

module _ (κ : Two) where
  pub fresh_firm : (t : Lent) (z : MutLent) (t₁ t₂ : Lent) (z₁ z₂ : MutLent) (v v₁ v₂ : ℕ) (r₁ r₂ : ℕ)
      → fresh.Post κ (t, (v, (z, tt))) r₁ (t₁, (v₁, (z₁, tt))) → fresh.Post κ (t, (v, (z, tt))) r₂ (t₂, (v₂, (z₂, tt)))
      → (r₁ ≡ r₂) × (z₁.now ≡ z₂.now)
  fresh_firm t z t₁ t₂ z₁ z₂ v v₁ v₂ r₁ r₂ p₁ p₂ = let p = p₁ ∙ sym p₂ in (ap (λ (o : Left). o.number) p, ap (λ (o : Left). o.state) p)

  pub post_firm : (t : Lent) (z : MutLent) (t₁ t₂ : Lent) (z₁ z₂ : MutLent) (name name₁ name₂ : ℕ) (g g₁ g₂ : Tuple) (r₁ r₂ : ℕ)
      → post.Post κ (t, (z, (name, (g, tt)))) r₁ (t₁, (z₁, (name₁, (g₁, tt)))) → post.Post κ (t, (z, (name, (g, tt)))) r₂ (t₂, (z₂, (name₂, (g₂, tt))))
      → (r₁ ≡ r₂) × (z₁.now ≡ z₂.now)
  post_firm t z t₁ t₂ z₁ z₂ name name₁ name₂ g g₁ g₂ r₁ r₂ p₁ p₂ = let p = p₁ ∙ sym p₂ in (ap (λ (o : Left). o.number) p, ap (λ (o : Left). o.state) p)

  pub list_firm : (t z t₁ t₂ z₁ z₂ : Lent) (k k₁ k₂ : ℕ) (r₁ r₂ : Listed)
      → list.Post κ (t, (z, (k, tt))) r₁ (t₁, (z₁, (k₁, tt))) → list.Post κ (t, (z, (k, tt))) r₂ (t₂, (z₂, (k₂, tt)))
      → r₁ ≡ r₂
  list_firm t z t₁ t₂ z₁ z₂ k k₁ k₂ r₁ r₂ p₁ p₂ = p₁ ∙ sym p₂

  pub read_firm : (text : Lent) (t : MutLent) (text₁ text₂ : Lent) (t₁ t₂ : MutLent) (r₁ r₂ : Reading)
      → read.Post κ (text, (t, tt)) r₁ (text₁, (t₁, tt)) → read.Post κ (text, (t, tt)) r₂ (text₂, (t₂, tt))
      → (r₁ ≡ r₂) × (t₁.now ≡ t₂.now)
  read_firm text t text₁ text₂ t₁ t₂ r₁ r₂ p₁ p₂ =
      let p = p₁ ∙ sym p₂ in (ap (λ (o : ReadInto). record { number = o.number; beside = o.beside }) p, ap (λ (o : ReadInto). o.table) p)

  pub draw_firm : (text : Lent) (t : MutLent) (text₁ text₂ : Lent) (t₁ t₂ : MutLent) (r₁ r₂ : Reading)
      → draw.Post κ (text, (t, tt)) r₁ (text₁, (t₁, tt)) → draw.Post κ (text, (t, tt)) r₂ (text₂, (t₂, tt))
      → (r₁ ≡ r₂) × (t₁.now ≡ t₂.now)
  draw_firm text t text₁ text₂ t₁ t₂ r₁ r₂ p₁ p₂ =
      let p = p₁ ∙ sym p₂ in (ap (λ (o : ReadInto). record { number = o.number; beside = o.beside }) p, ap (λ (o : ReadInto). o.table) p)

  pub write_firm : (t : Lent) (out : MutLent) (t₁ t₂ : Lent) (out₁ out₂ : MutLent) (r₁ r₂ : Written)
      → write.Post κ (t, (out, tt)) r₁ (t₁, (out₁, tt)) → write.Post κ (t, (out, tt)) r₂ (t₂, (out₂, tt))
      → (r₁ ≡ r₂) × (out₁.now ≡ out₂.now)
  write_firm t out t₁ t₂ out₁ out₂ r₁ r₂ p₁ p₂ =
      let p = p₁ ∙ sym p₂ in (ap (λ (o : WrittenTo). record { number = o.number; length = o.length }) p, ap (λ (o : WrittenTo). o.buffer) p)

  pub judge_firm : (t log t₁ t₂ log₁ log₂ : Lent) (v v₁ v₂ : ℕ) (r₁ r₂ : Judged)
      → judge.Post κ (t, (v, (log, tt))) r₁ (t₁, (v₁, (log₁, tt))) → judge.Post κ (t, (v, (log, tt))) r₂ (t₂, (v₂, (log₂, tt)))
      → r₁ ≡ r₂
  judge_firm t log t₁ t₂ log₁ log₂ v v₁ v₂ r₁ r₂ p₁ p₂ = p₁ ∙ sym p₂

  pub repair_firm : (text : Lent) (out : MutLent) (text₁ text₂ : Lent) (out₁ out₂ : MutLent) (r₁ r₂ : Repaired)
      → repair.Post κ (text, (out, tt)) r₁ (text₁, (out₁, tt)) → repair.Post κ (text, (out, tt)) r₂ (text₂, (out₂, tt))
      → (r₁ ≡ r₂) × (out₁.now ≡ out₂.now)
  repair_firm text out text₁ text₂ out₁ out₂ r₁ r₂ p₁ p₂ =
      let p = p₁ ∙ sym p₂ in (
        ap (λ (o : Repair). record { number = o.number; length = o.length; kept = o.kept; dropped = o.dropped }) p,
        ap (λ (o : Repair). o.buffer) p,
      )

-- a log, and a state that is lent with it
module _ (κ : Three) where
  pub replay_firm : (t log : Lent) (z : MutLent) (t₁ t₂ log₁ log₂ : Lent) (z₁ z₂ : MutLent) (v v₁ v₂ : ℕ) (r₁ r₂ : Judged)
      → replay.Post κ (t, (v, (log, (z, tt)))) r₁ (t₁, (v₁, (log₁, (z₁, tt)))) → replay.Post κ (t, (v, (log, (z, tt)))) r₂ (t₂, (v₂, (log₂, (z₂, tt))))
      → (r₁ ≡ r₂) × (z₁.now ≡ z₂.now)
  replay_firm t log z t₁ t₂ log₁ log₂ z₁ z₂ v v₁ v₂ r₁ r₂ p₁ p₂ =
      let p = p₁ ∙ sym p₂ in (ap (λ (o : Replayed). o.answer) p, ap (λ (o : Replayed). o.state) p)

  pub resume_firm : (t : Lent) (z : MutLent) (log t₁ t₂ : Lent) (z₁ z₂ : MutLent) (log₁ log₂ : Lent) (r₁ r₂ : Judged)
      → resume.Post κ (t, (z, (log, tt))) r₁ (t₁, (z₁, (log₁, tt))) → resume.Post κ (t, (z, (log, tt))) r₂ (t₂, (z₂, (log₂, tt)))
      → (r₁ ≡ r₂) × (z₁.now ≡ z₂.now)
  resume_firm t z log t₁ t₂ z₁ z₂ log₁ log₂ r₁ r₂ p₁ p₂ =
      let p = p₁ ∙ sym p₂ in (ap (λ (o : Replayed). o.answer) p, ap (λ (o : Replayed). o.state) p)

-- the calls with records
module _ (κ : Three) where
  pub step_firm : (t : Lent) (z : MutLent) (t₁ t₂ : Lent) (z₁ z₂ : MutLent) (rs rs₁ rs₂ : Desk) (n n₁ n₂ : Name) (r₁ r₂ : Answer)
      → step.Post κ (t, (z, (rs, (n, tt)))) r₁ (t₁, (z₁, (rs₁, (n₁, tt)))) → step.Post κ (t, (z, (rs, (n, tt)))) r₂ (t₂, (z₂, (rs₂, (n₂, tt))))
      → (r₁ ≡ r₂) × (z₁.now ≡ z₂.now) × (rs₁.now ≡ rs₂.now)
  step_firm t z t₁ t₂ z₁ z₂ rs rs₁ rs₂ n n₁ n₂ r₁ r₂ p₁ p₂ =
      let p = p₁ ∙ sym p₂ in (ap (λ (o : AtDesk Stepped). o.done.answer) p, ap (λ (o : AtDesk Stepped). o.done.state) p, ap (λ (o : AtDesk Stepped). o.records) p)

  pub run_firm : (t : Lent) (z : MutLent) (t₁ t₂ : Lent) (z₁ z₂ : MutLent) (rs rs₁ rs₂ : Desk) (limit limit₁ limit₂ : ℕ) (r₁ r₂ : Ran)
      → run.Post κ (t, (z, (rs, (limit, tt)))) r₁ (t₁, (z₁, (rs₁, (limit₁, tt)))) → run.Post κ (t, (z, (rs, (limit, tt)))) r₂ (t₂, (z₂, (rs₂, (limit₂, tt))))
      → (r₁ ≡ r₂) × (z₁.now ≡ z₂.now) × (rs₁.now ≡ rs₂.now)
  run_firm t z t₁ t₂ z₁ z₂ rs rs₁ rs₂ limit limit₁ limit₂ r₁ r₂ p₁ p₂ =
      let p = p₁ ∙ sym p₂ in (
        ap (λ (o : AtDesk RanTo). record { number = o.done.number; steps = o.done.steps; left = o.done.left }) p,
        ap (λ (o : AtDesk RanTo). o.done.state) p,
        ap (λ (o : AtDesk RanTo). o.records) p,
      )

  pub figures_firm : (t z t₁ t₂ z₁ z₂ : Lent) (rs rs₁ rs₂ : Desk) (r₁ r₂ : ℕ)
      → figures.Post κ (t, (z, (rs, tt))) r₁ (t₁, (z₁, (rs₁, tt))) → figures.Post κ (t, (z, (rs, tt))) r₂ (t₂, (z₂, (rs₂, tt)))
      → (r₁ ≡ r₂) × (rs₁.now ≡ rs₂.now)
  figures_firm t z t₁ t₂ z₁ z₂ rs rs₁ rs₂ r₁ r₂ p₁ p₂ = let p = p₁ ∙ sym p₂ in (ap (λ (o : Figured). o.number) p, ap (λ (o : Figured). o.records) p)

pub poll_firm : (κ : Four) (t : Lent) (z : MutLent) (w t₁ t₂ : Lent) (z₁ z₂ : MutLent) (w₁ w₂ : Lent) (rs rs₁ rs₂ : Desk) (count count₁ count₂ : ℕ) (r₁ r₂ : Polled)
    → poll.Post κ (t, (z, (rs, (w, (count, tt))))) r₁ (t₁, (z₁, (rs₁, (w₁, (count₁, tt))))) → poll.Post κ (t, (z, (rs, (w, (count, tt))))) r₂ (t₂, (z₂, (rs₂, (w₂, (count₂, tt)))))
    → (r₁ ≡ r₂) × (z₁.now ≡ z₂.now) × (rs₁.now ≡ rs₂.now)
poll_firm κ t z w t₁ t₂ z₁ z₂ w₁ w₂ rs rs₁ rs₂ count count₁ count₂ r₁ r₂ p₁ p₂ =
    let p = p₁ ∙ sym p₂ in (
      ap (λ (o : AtDesk Polling). record { number = o.done.number; accepted = o.done.accepted }) p,
      ap (λ (o : AtDesk Polling). o.done.state) p,
      ap (λ (o : AtDesk Polling). o.records) p,
    )

-- WHAT THE PROMISES ALLOW is what the demands speak of, with records that agree; and so they do again
module _ (t : List ℕ) where
  -- one call
  pub allowed_is : (a : Act) (z : List ℕ) (rs : List (List ℕ)) → Agrees t z rs → (r : ℕ) (y : List ℕ) (ys : List (List ℕ)) → Allowed t a z rs r y ys
      → (r ≡ (did t a z).number) × (y ≡ (did t a z).state) × Agrees t y ys
  unfolding Allowed did
  allowed_is (a_step n) z rs e r y ys h =
      let w = step_agrees t z rs e n h.0 y ys h.2 in
      (h.1 ∙ ap (λ (o : Stepped). o.answer.number) w.0, ap (λ (o : Stepped). o.state) w.0, w.1)
  allowed_is (a_post name g) z rs e r y ys h =
      (ap (λ (o : Left). o.number) h.0, ap (λ (o : Left). o.state) h.0, post_agrees t z rs e name g r y ys h.0 h.1)

  -- and calls one after the other: no later one does anything but its own
  pub all_allowed_is : (acts : List Act) (z : List ℕ) (rs : List (List ℕ)) → Agrees t z rs → (ks y : List ℕ) (ys : List (List ℕ)) → AllAllowed t acts z rs ks y ys
      → (ks ≡ numbers t acts z) × (y ≡ after t acts z) × Agrees t y ys
  unfolding AllAllowed after numbers
  all_allowed_is [] z rs e [] y ys h = (refl, h.0, rw (h.0, h.1) e)
  all_allowed_is [] z rs e (k ∷ ks) y ys h = absurd h
  all_allowed_is (a ∷ rest) z rs e [] y ys h = absurd h
  all_allowed_is (a ∷ rest) z rs e (k ∷ ks) y ys h =
      let one = allowed_is a z rs e k h.0 h.1 h.2 in
      let others = all_allowed_is rest h.0 h.1 one.2 ks y ys h.3 in (
        ap₂ ◌∷◌ one.0 (others.0 ∙ ap (numbers t rest) one.1),
        others.1 ∙ ap (after t rest) one.1,
        others.2,
      )
