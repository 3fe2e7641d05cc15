-- THE PROMISES ARE THOSE OF THE CODE: what specs/Promises.antt says of each public call is what its `ensures` says, by computation. A reference is what
-- it points to now, a call's arguments and what they are afterwards are a list of them. Assumes nothing.
use Prim.Native.Nat.{ℕ}
use mathlib.Core.Path.{◌≡◌, refl}
use mathlib.Core.List.{List}
use denote.Ref.{Bor, MutBor}
use Rattle.meaning.specs.declared.Name.{Name}
use Rattle.meaning.specs.declared.Answer.{Answer}
use Rattle.meaning.specs.declared.Tuple.{Tuple}
use Rattle.step_list.specs.declared.Listed.{Listed}
use Rattle.text_read.specs.declared.Reading.{Reading}
use Rattle.draw_diagnose.specs.declared.Diagnosis.{Diagnosis}
use Rattle.step_poll.specs.declared.Polled.{Polled}
use Rattle.log_judge.specs.declared.Judged.{Judged}
use Rattle.log_repair.specs.declared.Repaired.{Repaired}
use Rattle.engine.specs.declared.Verdict.{Verdict}
use Rattle.engine.specs.declared.Ran.{Ran}
use Rattle.engine.specs.declared.Written.{Written}
use Rattle.engine.specs.Calls.{a_step, a_post}
use Rattle.engine.proofs.check.Reads as check
use Rattle.engine.proofs.fresh.Reads as fresh
use Rattle.engine.proofs.step.Reads as step
use Rattle.engine.proofs.post.Reads as post
use Rattle.engine.proofs.list.Reads as list
use Rattle.engine.proofs.run.Reads as run
use Rattle.engine.proofs.read.Reads as read
use Rattle.engine.proofs.draw.Reads as draw
use Rattle.engine.proofs.diagnose.Reads as diagnose
use Rattle.engine.proofs.write.Reads as write
use Rattle.engine.proofs.poll.Reads as poll
use Rattle.engine.proofs.judge.Reads as judge
use Rattle.engine.proofs.replay.Reads as replay
use Rattle.engine.proofs.resume.Reads as resume
use Rattle.engine.proofs.repair.Reads as repair
use Rattle.engine.proofs.figures.Reads as figures
use Rattle.engine.proofs.nested.Reads as nested
use Rattle.proof_demands.specs.Promises.{Checks, Freshens, Steps, Posts, Lists, Runs, Reads, Draws, Diagnoses, Writes, Polls, Figures, Judges, Replays, Resumes, Repairs, Nests}
use Rattle.proof_demands.specs.Demands.{Allowed}

-- a slice or an array that is lent; one that is lent to be written, and so the desk's records; and the lifetimes of one, of two, of three and of four
abbrev pub Lent : Type 0
Lent = Bor (List ℕ)

abbrev pub MutLent : Type 0
MutLent = MutBor (List ℕ)

abbrev pub Desk : Type 0
Desk = MutBor (List (List ℕ))

abbrev pub None : Type 0
None = Unit {0}

abbrev pub One : Type 0
One = List ℕ × None

abbrev pub Two : Type 0
Two = List ℕ × One

abbrev pub Three : Type 0
Three = List ℕ × Two

abbrev pub Four : Type 0
Four = List ℕ × Three

pub check_promise : (κ : One) (t t₁ : Lent) (r : Verdict) → check.Post κ (t, tt) r (t₁, tt) ≡ Checks t.now r
check_promise κ t t₁ r = refl

pub diagnose_promise : (κ : One) (text text₁ : Lent) (r : Diagnosis) → diagnose.Post κ (text, tt) r (text₁, tt) ≡ Diagnoses text.now r
diagnose_promise κ text text₁ r = refl

module _ (κ : Two) where
  pub fresh_promise : (t : Lent) (z : MutLent) (t₁ : Lent) (z₁ : MutLent) (v v₁ : ℕ) (r : ℕ) → fresh.Post κ (t, (v, (z, tt))) r (t₁, (v₁, (z₁, tt))) ≡ Freshens t.now v z.now r z₁.now
  fresh_promise t z t₁ z₁ v v₁ r = refl

  pub post_promise : (t : Lent) (z : MutLent) (t₁ : Lent) (z₁ : MutLent) (name name₁ : ℕ) (g g₁ : Tuple) (r : ℕ)
      → post.Post κ (t, (z, (name, (g, tt)))) r (t₁, (z₁, (name₁, (g₁, tt)))) ≡ Posts t.now z.now name g r z₁.now
  post_promise t z t₁ z₁ name name₁ g g₁ r = refl

  pub list_promise : (t z t₁ z₁ : Lent) (k k₁ : ℕ) (r : Listed) → list.Post κ (t, (z, (k, tt))) r (t₁, (z₁, (k₁, tt))) ≡ Lists t.now z.now k r
  list_promise t z t₁ z₁ k k₁ r = refl

  pub read_promise : (text : Lent) (t : MutLent) (text₁ : Lent) (t₁ : MutLent) (r : Reading) → read.Post κ (text, (t, tt)) r (text₁, (t₁, tt)) ≡ Reads text.now t.now r t₁.now
  read_promise text t text₁ t₁ r = refl

  pub draw_promise : (text : Lent) (t : MutLent) (text₁ : Lent) (t₁ : MutLent) (r : Reading) → draw.Post κ (text, (t, tt)) r (text₁, (t₁, tt)) ≡ Draws text.now t.now r t₁.now
  draw_promise text t text₁ t₁ r = refl

  pub write_promise : (t : Lent) (out : MutLent) (t₁ : Lent) (out₁ : MutLent) (r : Written) → write.Post κ (t, (out, tt)) r (t₁, (out₁, tt)) ≡ Writes t.now out.now r out₁.now
  write_promise t out t₁ out₁ r = refl

  pub judge_promise : (t log t₁ log₁ : Lent) (v v₁ : ℕ) (r : Judged) → judge.Post κ (t, (v, (log, tt))) r (t₁, (v₁, (log₁, tt))) ≡ Judges t.now v log.now r
  judge_promise t log t₁ log₁ v v₁ r = refl

  pub repair_promise : (text : Lent) (out : MutLent) (text₁ : Lent) (out₁ : MutLent) (r : Repaired) → repair.Post κ (text, (out, tt)) r (text₁, (out₁, tt)) ≡ Repairs text.now out.now r out₁.now
  repair_promise text out text₁ out₁ r = refl

  -- so too what the demands say that a post is allowed, which is lent no records
  pub post_allowed : (t : Lent) (z : MutLent) (t₁ : Lent) (z₁ : MutLent) (rs : List (List ℕ)) (name name₁ : ℕ) (g g₁ : Tuple) (r : ℕ)
      → (post.Post κ (t, (z, (name, (g, tt)))) r (t₁, (z₁, (name₁, (g₁, tt)))) × (rs ≡ rs)) ≡ Allowed t.now (a_post name g) z.now rs r z₁.now rs
  unfolding Allowed
  post_allowed t z t₁ z₁ rs name name₁ g g₁ r = refl

-- a log, and a state that is lent with it
module _ (κ : Three) where
  pub replay_promise : (t log : Lent) (z : MutLent) (t₁ log₁ : Lent) (z₁ : MutLent) (v v₁ : ℕ) (r : Judged)
      → replay.Post κ (t, (v, (log, (z, tt)))) r (t₁, (v₁, (log₁, (z₁, tt)))) ≡ Replays t.now v log.now z.now r z₁.now
  replay_promise t log z t₁ log₁ z₁ v v₁ r = refl

  pub resume_promise : (t : Lent) (z : MutLent) (log t₁ : Lent) (z₁ : MutLent) (log₁ : Lent) (r : Judged) → resume.Post κ (t, (z, (log, tt))) r (t₁, (z₁, (log₁, tt))) ≡ Resumes t.now z.now log.now r z₁.now
  resume_promise t z log t₁ z₁ log₁ r = refl

-- THE CALLS WITH RECORDS
module _ (κ : Three) where
  pub step_promise : (t : Lent) (z : MutLent) (t₁ : Lent) (z₁ : MutLent) (rs rs₁ : Desk) (n n₁ : Name) (r : Answer)
      → step.Post κ (t, (z, (rs, (n, tt)))) r (t₁, (z₁, (rs₁, (n₁, tt)))) ≡ Steps t.now z.now rs.now n r z₁.now rs₁.now
  step_promise t z t₁ z₁ rs rs₁ n n₁ r = refl

  pub run_promise : (t : Lent) (z : MutLent) (t₁ : Lent) (z₁ : MutLent) (rs rs₁ : Desk) (limit limit₁ : ℕ) (r : Ran)
      → run.Post κ (t, (z, (rs, (limit, tt)))) r (t₁, (z₁, (rs₁, (limit₁, tt)))) ≡ Runs t.now z.now rs.now limit r z₁.now rs₁.now
  run_promise t z t₁ z₁ rs rs₁ limit limit₁ r = refl

  pub figures_promise : (t z t₁ z₁ : Lent) (rs rs₁ : Desk) (r : ℕ) → figures.Post κ (t, (z, (rs, tt))) r (t₁, (z₁, (rs₁, tt))) ≡ Figures t.now z.now rs.now r rs₁.now
  figures_promise t z t₁ z₁ rs rs₁ r = refl

  pub step_allowed : (t : Lent) (z : MutLent) (t₁ : Lent) (z₁ : MutLent) (rs rs₁ : Desk) (n n₁ : Name) (k : ℕ)
      → ((a : Answer) × (k ≡ a.number) × step.Post κ (t, (z, (rs, (n, tt)))) a (t₁, (z₁, (rs₁, (n₁, tt))))) ≡ Allowed t.now (a_step n) z.now rs.now k z₁.now rs₁.now
  unfolding Allowed
  step_allowed t z t₁ z₁ rs rs₁ n n₁ k = refl

pub poll_promise : (κ : Four) (t : Lent) (z : MutLent) (w t₁ : Lent) (z₁ : MutLent) (w₁ : Lent) (rs rs₁ : Desk) (count count₁ : ℕ) (r : Polled)
    → poll.Post κ (t, (z, (rs, (w, (count, tt))))) r (t₁, (z₁, (rs₁, (w₁, (count₁, tt))))) ≡ Polls t.now z.now rs.now w.now count r z₁.now rs₁.now
poll_promise κ t z w t₁ z₁ w₁ rs rs₁ count count₁ r = refl

pub nested_promise : (κ : One) (t t₁ : Lent) (r : Verdict) → nested.Post κ (t, tt) r (t₁, tt) ≡ Nests t.now r
nested_promise κ t t₁ r = refl
