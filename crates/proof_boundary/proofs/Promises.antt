-- THE PROMISES FOR C ARE THOSE OF THE CODE: what the `ensures` of each `cv_` function says is the equation with its definition in cuttingvale/specs/Boundary.antt, by computation. t is the table and n its length, z the state
-- and m its length, rs are the desk's records; the last tuple is what they are afterwards. Assumes nothing.
use Prim.Native.Nat.{ℕ}
use mathlib.Core.Path.{◌≡◌, refl}
use mathlib.Core.List.{List}
use Rattle.meaning.specs.declared.Name.{Name}
use Rattle.meaning.specs.declared.Tuple.{Tuple}
use Rattle.step_list.specs.declared.Listed.{Listed}
use Rattle.step_poll.specs.declared.Polled.{Polled}
use Rattle.step_poll.specs.Poll.{Polling}
use Rattle.state_figures.specs.Figures.{Figured}
use Rattle.text_read.specs.declared.Reading.{Reading}
use Rattle.text_read.specs.Notation.{ReadInto}
use Rattle.draw_diagnose.specs.declared.Diagnosis.{Diagnosis}
use Rattle.log_judge.specs.declared.Judged.{Judged}
use Rattle.log_repair.specs.declared.Repaired.{Repaired}
use Rattle.engine.specs.declared.Verdict.{Verdict}
use Rattle.engine.specs.declared.Ran.{Ran}
use Rattle.engine.specs.declared.Written.{Written}
use Rattle.engine.specs.Engine.{Left, RanTo, WrittenTo}
use Rattle.engine.specs.Desk.{AtDesk}
use Rattle.engine.specs.Replay.{Replayed}
use Rattle.write_lines.specs.Lines.{step_line}
use Rattle.log_write.specs.Xes.{header, event_text, footer}
use Rattle.log_pieces.specs.declared.Piece.{Piece}
use Rattle.log_pieces.specs.Pieces.{Pieced, piece_in, post_line}
use Rattle.cuttingvale.specs.declared.Taken.{Taken}
use Rattle.cuttingvale.specs.Boundary.{TakenTo, checked_by, freshened_by, stepped_by, posted_by, listed_by, ran_lent, figured_by, read_by, drawn_by, written_by, polled_lent, judged_lent, replayed_by, resumed_by, answer_to_c, nested_by}
use Rattle.cuttingvale.specs.Release.{release, layouts}
use Rattle.cuttingvale.proofs.cv_check.Reads as check
use Rattle.cuttingvale.proofs.cv_fresh.Reads as fresh
use Rattle.cuttingvale.proofs.cv_step.Reads as step
use Rattle.cuttingvale.proofs.cv_post.Reads as post
use Rattle.cuttingvale.proofs.cv_list.Reads as list
use Rattle.cuttingvale.proofs.cv_run.Reads as run
use Rattle.cuttingvale.proofs.cv_figures.Reads as figures
use Rattle.cuttingvale.proofs.cv_read.Reads as read
use Rattle.cuttingvale.proofs.cv_draw.Reads as draw
use Rattle.cuttingvale.proofs.cv_diagnose.Reads as diagnose
use Rattle.cuttingvale.proofs.cv_write.Reads as write
use Rattle.cuttingvale.proofs.cv_poll.Reads as poll
use Rattle.cuttingvale.proofs.cv_judge.Reads as judge
use Rattle.cuttingvale.proofs.cv_replay.Reads as replay
use Rattle.cuttingvale.proofs.cv_resume.Reads as resume
use Rattle.cuttingvale.proofs.cv_log_begin.Reads as log-begin
use Rattle.cuttingvale.proofs.cv_log_step.Reads as log-step
use Rattle.cuttingvale.proofs.cv_log_post.Reads as log-post
use Rattle.cuttingvale.proofs.cv_log_end.Reads as log_end
use Rattle.cuttingvale.proofs.cv_repair.Reads as repair
use Rattle.cuttingvale.proofs.cv_nested.Reads as nested
use Rattle.cuttingvale.proofs.version.cv_version.Reads as version
use Rattle.cuttingvale.proofs.version.cv_abi_4.Reads as abi
use Rattle.proof_demands.specs.Promises.{Diagnoses, Repairs}
use Rattle.proof_demands.proofs.Promises.{Lent, MutLent, Desk, None, One, Two, Three, Four}

-- A TABLE
module _ (κ : One) (t t₁ : Lent) (n n₁ : ℕ) (r : Verdict) where
  pub check_promise : check.Post κ (t, (n, tt)) r (t₁, (n₁, tt)) ≡ (r ≡ checked_by t.now n)
  check_promise = refl

  pub nested_promise : nested.Post κ (t, (n, tt)) r (t₁, (n₁, tt)) ≡ (r ≡ nested_by t.now n)
  nested_promise = refl

-- A TABLE, AND A TEXT, A BUFFER OR A LOG
module _ (κ : Two) (t t₁ : MutLent) (n n₁ : ℕ) (x x₁ : Lent) where
  pub read_promise : (r : Reading) → read.Post κ (x, (t, (n, tt))) r (x₁, (t₁, (n₁, tt))) ≡ (◌≡◌ {A = ReadInto} (record { number = r.number; beside = r.beside; table = t₁.now }) (read_by x.now t.now n))
  read_promise r = refl

  pub draw_promise : (r : Reading) → draw.Post κ (x, (t, (n, tt))) r (x₁, (t₁, (n₁, tt))) ≡ (◌≡◌ {A = ReadInto} (record { number = r.number; beside = r.beside; table = t₁.now }) (drawn_by x.now t.now n))
  draw_promise r = refl

module _ (κ : Two) (t t₁ : Lent) (n n₁ : ℕ) (x x₁ : MutLent) where
  pub write_promise : (r : Written) → write.Post κ (t, (n, (x, tt))) r (t₁, (n₁, (x₁, tt))) ≡ (◌≡◌ {A = WrittenTo} (record { number = r.number; length = r.length; buffer = x₁.now }) (written_by t.now n x.now))
  write_promise r = refl

module _ (κ : Two) (t t₁ : Lent) (n n₁ : ℕ) (x x₁ : Lent) where
  pub judge_promise : (v v₁ : ℕ) (r : Judged) → judge.Post κ (t, (n, (v, (x, tt)))) r (t₁, (n₁, (v₁, (x₁, tt)))) ≡ (r ≡ judged_lent t.now n v x.now)
  judge_promise v v₁ r = refl

-- no block with a length beside it: as the engine's
pub repair_promise : (κ : Two) (x : Lent) (out : MutLent) (x₁ : Lent) (out₁ : MutLent) (r : Repaired) → repair.Post κ (x, (out, tt)) r (x₁, (out₁, tt)) ≡ Repairs x.now out.now r out₁.now
repair_promise κ x out x₁ out₁ r = refl

pub diagnose_promise : (κ : One) (x x₁ : Lent) (r : Diagnosis) → diagnose.Post κ (x, tt) r (x₁, tt) ≡ Diagnoses x.now r
diagnose_promise κ x x₁ r = refl

-- A TABLE AND A STATE
module _ (κ : Two) (t t₁ : Lent) (z z₁ : MutLent) (n n₁ m m₁ : ℕ) where
  pub fresh_promise : (v v₁ r : ℕ) → fresh.Post κ (t, (n, (v, (z, (m, tt))))) r (t₁, (n₁, (v₁, (z₁, (m₁, tt))))) ≡ (◌≡◌ {A = Left} (record { number = r; state = z₁.now }) (freshened_by t.now n v z.now m))
  fresh_promise v v₁ r = refl

  pub post_promise : (name name₁ : ℕ) (g g₁ : Tuple) (r : ℕ) → post.Post κ (t, (n, (z, (m, (name, (g, tt)))))) r (t₁, (n₁, (z₁, (m₁, (name₁, (g₁, tt)))))) ≡ (◌≡◌ {A = Left} (record { number = r; state = z₁.now }) (posted_by t.now n z.now m name g))
  post_promise name name₁ g g₁ r = refl

module _ (κ : Two) (t t₁ z z₁ : Lent) (n n₁ m m₁ : ℕ) where
  pub list_promise : (k k₁ : ℕ) (r : Listed) → list.Post κ (t, (n, (z, (m, (k, tt))))) r (t₁, (n₁, (z₁, (m₁, (k₁, tt))))) ≡ (r ≡ listed_by t.now n z.now m k)
  list_promise k k₁ r = refl

-- AND THE DESK'S RECORDS
module _ (κ : Three) (t t₁ : Lent) (z z₁ : MutLent) (rs rs₁ : Desk) (n n₁ m m₁ : ℕ) where
  pub step_promise : (s s₁ : Name) (r : Taken) → step.Post κ (t, (n, (z, (m, (rs, (s, tt)))))) r (t₁, (n₁, (z₁, (m₁, (rs₁, (s₁, tt)))))) ≡ (◌≡◌ {A = AtDesk TakenTo} (record { done = record { answer = r; state = z₁.now }; records = rs₁.now }) (stepped_by t.now n z.now m rs.now s))
  step_promise s s₁ r = refl

  pub run_promise : (limit limit₁ : ℕ) (r : Ran)
      → run.Post κ (t, (n, (z, (m, (rs, (limit, tt)))))) r (t₁, (n₁, (z₁, (m₁, (rs₁, (limit₁, tt)))))) ≡ (◌≡◌ {A = AtDesk RanTo} (record { done = record { number = r.number; steps = r.steps; left = r.left; state = z₁.now }; records = rs₁.now }) (ran_lent t.now n z.now m rs.now limit))
  run_promise limit limit₁ r = refl

module _ (κ : Three) (t t₁ z z₁ : Lent) (rs rs₁ : Desk) (n n₁ m m₁ : ℕ) where
  pub figures_promise : (r : ℕ) → figures.Post κ (t, (n, (z, (m, (rs, tt))))) r (t₁, (n₁, (z₁, (m₁, (rs₁, tt))))) ≡ (◌≡◌ {A = Figured} (record { number = r; records = rs₁.now }) (figured_by t.now n z.now m rs.now))
  figures_promise r = refl

-- AND THE ITEMS OF A POLL, k words of them
pub poll_promise : (κ : Four) (t t₁ : Lent) (z z₁ : MutLent) (w w₁ : Lent) (rs rs₁ : Desk) (n n₁ m m₁ k k₁ count count₁ : ℕ) (r : Polled)
    → poll.Post κ (t, (n, (z, (m, (rs, (w, (k, (count, tt)))))))) r (t₁, (n₁, (z₁, (m₁, (rs₁, (w₁, (k₁, (count₁, tt)))))))) ≡ (◌≡◌ {A = AtDesk Polling} (record { done = record { number = r.number; accepted = r.accepted; state = z₁.now }; records = rs₁.now }) (polled_lent t.now n z.now m rs.now w.now k count))
poll_promise κ t t₁ z z₁ w w₁ rs rs₁ n n₁ m m₁ k k₁ count count₁ r = refl

-- A TABLE, A LOG AND A STATE
module _ (κ : Three) (t t₁ log log₁ : Lent) (z z₁ : MutLent) (n n₁ m m₁ : ℕ) (r : Judged) where
  pub replay_promise : (v v₁ : ℕ) → replay.Post κ (t, (n, (v, (log, (z, (m, tt)))))) r (t₁, (n₁, (v₁, (log₁, (z₁, (m₁, tt))))))
      ≡ (◌≡◌ {A = Replayed} (record { answer = r; state = z₁.now }) (replayed_by t.now n v log.now z.now m))
  replay_promise v v₁ = refl

  pub resume_promise : resume.Post κ (t, (n, (z, (m, (log, tt))))) r (t₁, (n₁, (z₁, (m₁, (log₁, tt))))) ≡ (◌≡◌ {A = Replayed} (record { answer = r; state = z₁.now }) (resumed_by t.now n z.now m log.now))
  resume_promise = refl

-- A PIECE OF A LOG, in a buffer
module _ (κ : One) (out out₁ : MutLent) (r : Piece) where
  abbrev Holds : List ℕ → Type 0
  Holds text = ◌≡◌ {A = Pieced} (record { number = r.number; length = r.length; buffer = out₁.now }) (piece_in text out.now)

  pub log_begin_promise : log-begin.Post κ (out, tt) r (out₁, tt) ≡ Holds header
  log_begin_promise = refl

  pub log_end_promise : log_end.Post κ (out, tt) r (out₁, tt) ≡ Holds footer
  log_end_promise = refl

  module _ (moment moment₁ : ℕ) where
    pub log_step_promise : (s s₁ : Name) (a a₁ : Taken) → log-step.Post κ (s, (a, (moment, (out, tt)))) r (s₁, (a₁, (moment₁, (out₁, tt)))) ≡ Holds (event_text moment (step_line s (answer_to_c a)))
    log_step_promise s s₁ a a₁ = refl

    pub log_post_promise : (name name₁ : ℕ) (g g₁ : Tuple) → log-post.Post κ (name, (g, (moment, (out, tt)))) r (name₁, (g₁, (moment₁, (out₁, tt)))) ≡ Holds (event_text moment (post_line name g))
    log_post_promise name name₁ g g₁ = refl

-- WHICH LIBRARY
module _ (κ : None) (r : ℕ) where
  pub version_promise : version.Post κ tt r tt ≡ (r ≡ release)
  version_promise = refl

  pub abi_promise : abi.Post κ tt r tt ≡ (r ≡ layouts)
  abi_promise = refl
