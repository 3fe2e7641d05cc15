-- HOW FIRM THE PROMISES FOR C ARE: any two results that the promise of a `cv_` function allows for what was lent coincide, the words and bytes lent to it included. Assumes nothing.
use Prim.Native.Nat.{ℕ}
use mathlib.Core.Path.{◌≡◌, sym, ◌∙◌, ap}
use Rattle.meaning.specs.declared.Name.{Name}
use Rattle.meaning.specs.declared.Tuple.{Tuple}
use Rattle.step_list.specs.declared.Listed.{Listed}
use Rattle.step_poll.specs.declared.Polled.{Polled}
use Rattle.step_poll.specs.Poll.{Polling}
use Rattle.state_figures.specs.Figures.{Figured}
use Rattle.text_read.specs.declared.Reading.{Reading}
use Rattle.text_read.specs.Notation.{ReadInto}
use Rattle.draw_diagnose.specs.declared.Diagnosis.{Diagnosis}
use Rattle.log_judge.specs.declared.Judged.{Judged}
use Rattle.log_repair.specs.declared.Repaired.{Repaired}
use Rattle.engine.specs.declared.Verdict.{Verdict}
use Rattle.engine.specs.declared.Ran.{Ran}
use Rattle.engine.specs.declared.Written.{Written}
use Rattle.engine.specs.Engine.{Left, RanTo, WrittenTo}
use Rattle.engine.specs.Desk.{AtDesk}
use Rattle.engine.specs.Replay.{Replayed}
use Rattle.log_pieces.specs.declared.Piece.{Piece}
use Rattle.log_pieces.specs.Pieces.{Pieced, piece_in}
use Rattle.log_repair.specs.Repair.{Repair}
use Rattle.cuttingvale.specs.declared.Taken.{Taken}
use Rattle.cuttingvale.specs.Boundary.{TakenTo}
use Rattle.cuttingvale.proofs.cv_check.Reads as check
use Rattle.cuttingvale.proofs.cv_fresh.Reads as fresh
use Rattle.cuttingvale.proofs.cv_step.Reads as step
use Rattle.cuttingvale.proofs.cv_post.Reads as post
use Rattle.cuttingvale.proofs.cv_list.Reads as list
use Rattle.cuttingvale.proofs.cv_run.Reads as run
use Rattle.cuttingvale.proofs.cv_figures.Reads as figures
use Rattle.cuttingvale.proofs.cv_read.Reads as read
use Rattle.cuttingvale.proofs.cv_draw.Reads as draw
use Rattle.cuttingvale.proofs.cv_diagnose.Reads as diagnose
use Rattle.cuttingvale.proofs.cv_write.Reads as write
use Rattle.cuttingvale.proofs.cv_poll.Reads as poll
use Rattle.cuttingvale.proofs.cv_judge.Reads as judge
use Rattle.cuttingvale.proofs.cv_replay.Reads as replay
use Rattle.cuttingvale.proofs.cv_resume.Reads as resume
use Rattle.cuttingvale.proofs.cv_log_begin.Reads as log-begin
use Rattle.cuttingvale.proofs.cv_log_step.Reads as log-step
use Rattle.cuttingvale.proofs.cv_log_post.Reads as log-post
use Rattle.cuttingvale.proofs.cv_log_end.Reads as log_end
use Rattle.cuttingvale.proofs.cv_repair.Reads as repair
use Rattle.cuttingvale.proofs.cv_nested.Reads as nested
use Rattle.cuttingvale.proofs.version.cv_version.Reads as version
use Rattle.cuttingvale.proofs.version.cv_abi_4.Reads as abi
use Rattle.proof_replay.proofs.Firm.{pieced}
use Rattle.proof_demands.proofs.Promises.{Lent, MutLent, Desk, None, One, Two, Three, Four}

-- A TABLE
module _ (κ : One) (t t₁ t₂ : Lent) (n n₁ n₂ : ℕ) (r₁ r₂ : Verdict) where
  pub check_firm : check.Post κ (t, (n, tt)) r₁ (t₁, (n₁, tt)) → check.Post κ (t, (n, tt)) r₂ (t₂, (n₂, tt)) → r₁ ≡ r₂
  check_firm p₁ p₂ = p₁ ∙ sym p₂

  pub nested_firm : nested.Post κ (t, (n, tt)) r₁ (t₁, (n₁, tt)) → nested.Post κ (t, (n, tt)) r₂ (t₂, (n₂, tt)) → r₁ ≡ r₂
  nested_firm p₁ p₂ = p₁ ∙ sym p₂

-- A TABLE, AND A TEXT, A BUFFER OR A LOG
module _ (κ : Two) (t t₁ t₂ : MutLent) (n n₁ n₂ : ℕ) (x x₁ x₂ : Lent) where
  pub read_firm : (r₁ r₂ : Reading) → read.Post κ (x, (t, (n, tt))) r₁ (x₁, (t₁, (n₁, tt))) → read.Post κ (x, (t, (n, tt))) r₂ (x₂, (t₂, (n₂, tt)))
      → (r₁ ≡ r₂) × (t₁.now ≡ t₂.now)
  read_firm r₁ r₂ p₁ p₂ = let p = p₁ ∙ sym p₂ in (ap (λ (o : ReadInto). record { number = o.number; beside = o.beside }) p, ap (λ (o : ReadInto). o.table) p)

  pub draw_firm : (r₁ r₂ : Reading) → draw.Post κ (x, (t, (n, tt))) r₁ (x₁, (t₁, (n₁, tt))) → draw.Post κ (x, (t, (n, tt))) r₂ (x₂, (t₂, (n₂, tt)))
      → (r₁ ≡ r₂) × (t₁.now ≡ t₂.now)
  draw_firm r₁ r₂ p₁ p₂ = let p = p₁ ∙ sym p₂ in (ap (λ (o : ReadInto). record { number = o.number; beside = o.beside }) p, ap (λ (o : ReadInto). o.table) p)

module _ (κ : Two) (t t₁ t₂ : Lent) (n n₁ n₂ : ℕ) (x x₁ x₂ : MutLent) where
  pub write_firm : (r₁ r₂ : Written) → write.Post κ (t, (n, (x, tt))) r₁ (t₁, (n₁, (x₁, tt))) → write.Post κ (t, (n, (x, tt))) r₂ (t₂, (n₂, (x₂, tt)))
      → (r₁ ≡ r₂) × (x₁.now ≡ x₂.now)
  write_firm r₁ r₂ p₁ p₂ = let p = p₁ ∙ sym p₂ in (ap (λ (o : WrittenTo). record { number = o.number; length = o.length }) p, ap (λ (o : WrittenTo). o.buffer) p)

module _ (κ : Two) (t t₁ t₂ : Lent) (n n₁ n₂ : ℕ) (x x₁ x₂ : Lent) where
  pub judge_firm : (v v₁ v₂ : ℕ) (r₁ r₂ : Judged) → judge.Post κ (t, (n, (v, (x, tt)))) r₁ (t₁, (n₁, (v₁, (x₁, tt)))) → judge.Post κ (t, (n, (v, (x, tt)))) r₂ (t₂, (n₂, (v₂, (x₂, tt)))) → r₁ ≡ r₂
  judge_firm v v₁ v₂ r₁ r₂ p₁ p₂ = p₁ ∙ sym p₂

pub repair_firm : (κ : Two) (x : Lent) (out : MutLent) (x₁ x₂ : Lent) (out₁ out₂ : MutLent) (r₁ r₂ : Repaired) → repair.Post κ (x, (out, tt)) r₁ (x₁, (out₁, tt)) → repair.Post κ (x, (out, tt)) r₂ (x₂, (out₂, tt))
    → (r₁ ≡ r₂) × (out₁.now ≡ out₂.now)
repair_firm κ x out x₁ x₂ out₁ out₂ r₁ r₂ p₁ p₂ =
    let p = p₁ ∙ sym p₂ in (ap (λ (o : Repair). record { number = o.number; length = o.length; kept = o.kept; dropped = o.dropped }) p, ap (λ (o : Repair). o.buffer) p)

pub diagnose_firm : (κ : One) (x x₁ x₂ : Lent) (r₁ r₂ : Diagnosis) → diagnose.Post κ (x, tt) r₁ (x₁, tt) → diagnose.Post κ (x, tt) r₂ (x₂, tt) → r₁ ≡ r₂
diagnose_firm κ x x₁ x₂ r₁ r₂ p₁ p₂ = p₁ ∙ sym p₂

-- A TABLE AND A STATE
module _ (κ : Two) (t t₁ t₂ : Lent) (z z₁ z₂ : MutLent) (n n₁ n₂ m m₁ m₂ : ℕ) where
  pub fresh_firm : (v v₁ v₂ r₁ r₂ : ℕ) → fresh.Post κ (t, (n, (v, (z, (m, tt))))) r₁ (t₁, (n₁, (v₁, (z₁, (m₁, tt))))) → fresh.Post κ (t, (n, (v, (z, (m, tt))))) r₂ (t₂, (n₂, (v₂, (z₂, (m₂, tt)))))
      → (r₁ ≡ r₂) × (z₁.now ≡ z₂.now)
  fresh_firm v v₁ v₂ r₁ r₂ p₁ p₂ = let p = p₁ ∙ sym p₂ in (ap (λ (o : Left). o.number) p, ap (λ (o : Left). o.state) p)

  pub post_firm : (name name₁ name₂ : ℕ) (g g₁ g₂ : Tuple) (r₁ r₂ : ℕ) → post.Post κ (t, (n, (z, (m, (name, (g, tt)))))) r₁ (t₁, (n₁, (z₁, (m₁, (name₁, (g₁, tt))))))
      → post.Post κ (t, (n, (z, (m, (name, (g, tt)))))) r₂ (t₂, (n₂, (z₂, (m₂, (name₂, (g₂, tt))))))
      → (r₁ ≡ r₂) × (z₁.now ≡ z₂.now)
  post_firm name name₁ name₂ g g₁ g₂ r₁ r₂ p₁ p₂ = let p = p₁ ∙ sym p₂ in (ap (λ (o : Left). o.number) p, ap (λ (o : Left). o.state) p)

module _ (κ : Two) (t t₁ t₂ z z₁ z₂ : Lent) (n n₁ n₂ m m₁ m₂ : ℕ) where
  pub list_firm : (k k₁ k₂ : ℕ) (r₁ r₂ : Listed) → list.Post κ (t, (n, (z, (m, (k, tt))))) r₁ (t₁, (n₁, (z₁, (m₁, (k₁, tt))))) → list.Post κ (t, (n, (z, (m, (k, tt))))) r₂ (t₂, (n₂, (z₂, (m₂, (k₂, tt))))) → r₁ ≡ r₂
  list_firm k k₁ k₂ r₁ r₂ p₁ p₂ = p₁ ∙ sym p₂

-- AND THE DESK'S RECORDS
module _ (κ : Three) (t t₁ t₂ : Lent) (z z₁ z₂ : MutLent) (rs rs₁ rs₂ : Desk) (n n₁ n₂ m m₁ m₂ : ℕ) where
  pub step_firm : (s s₁ s₂ : Name) (r₁ r₂ : Taken) → step.Post κ (t, (n, (z, (m, (rs, (s, tt)))))) r₁ (t₁, (n₁, (z₁, (m₁, (rs₁, (s₁, tt))))))
      → step.Post κ (t, (n, (z, (m, (rs, (s, tt)))))) r₂ (t₂, (n₂, (z₂, (m₂, (rs₂, (s₂, tt))))))
      → (r₁ ≡ r₂) × (z₁.now ≡ z₂.now) × (rs₁.now ≡ rs₂.now)
  step_firm s s₁ s₂ r₁ r₂ p₁ p₂ =
      let p = p₁ ∙ sym p₂ in (ap (λ (o : AtDesk TakenTo). o.done.answer) p, ap (λ (o : AtDesk TakenTo). o.done.state) p, ap (λ (o : AtDesk TakenTo). o.records) p)

  pub run_firm : (limit limit₁ limit₂ : ℕ) (r₁ r₂ : Ran) → run.Post κ (t, (n, (z, (m, (rs, (limit, tt)))))) r₁ (t₁, (n₁, (z₁, (m₁, (rs₁, (limit₁, tt))))))
      → run.Post κ (t, (n, (z, (m, (rs, (limit, tt)))))) r₂ (t₂, (n₂, (z₂, (m₂, (rs₂, (limit₂, tt))))))
      → (r₁ ≡ r₂) × (z₁.now ≡ z₂.now) × (rs₁.now ≡ rs₂.now)
  run_firm limit limit₁ limit₂ r₁ r₂ p₁ p₂ =
      let p = p₁ ∙ sym p₂ in (
        ap (λ (o : AtDesk RanTo). record { number = o.done.number; steps = o.done.steps; left = o.done.left }) p,
        ap (λ (o : AtDesk RanTo). o.done.state) p,
        ap (λ (o : AtDesk RanTo). o.records) p,
      )

module _ (κ : Three) (t t₁ t₂ z z₁ z₂ : Lent) (rs rs₁ rs₂ : Desk) (n n₁ n₂ m m₁ m₂ : ℕ) where
  pub figures_firm : (r₁ r₂ : ℕ) → figures.Post κ (t, (n, (z, (m, (rs, tt))))) r₁ (t₁, (n₁, (z₁, (m₁, (rs₁, tt))))) → figures.Post κ (t, (n, (z, (m, (rs, tt))))) r₂ (t₂, (n₂, (z₂, (m₂, (rs₂, tt)))))
      → (r₁ ≡ r₂) × (rs₁.now ≡ rs₂.now)
  figures_firm r₁ r₂ p₁ p₂ = let p = p₁ ∙ sym p₂ in (ap (λ (o : Figured). o.number) p, ap (λ (o : Figured). o.records) p)

-- AND THE ITEMS OF A POLL
pub poll_firm : (κ : Four) (t t₁ t₂ : Lent) (z z₁ z₂ : MutLent) (w w₁ w₂ : Lent) (rs rs₁ rs₂ : Desk) (n n₁ n₂ m m₁ m₂ k k₁ k₂ count count₁ count₂ : ℕ) (r₁ r₂ : Polled)
    → poll.Post κ (t, (n, (z, (m, (rs, (w, (k, (count, tt)))))))) r₁ (t₁, (n₁, (z₁, (m₁, (rs₁, (w₁, (k₁, (count₁, tt))))))))
    → poll.Post κ (t, (n, (z, (m, (rs, (w, (k, (count, tt)))))))) r₂ (t₂, (n₂, (z₂, (m₂, (rs₂, (w₂, (k₂, (count₂, tt))))))))
    → (r₁ ≡ r₂) × (z₁.now ≡ z₂.now) × (rs₁.now ≡ rs₂.now)
poll_firm κ t t₁ t₂ z z₁ z₂ w w₁ w₂ rs rs₁ rs₂ n n₁ n₂ m m₁ m₂ k k₁ k₂ count count₁ count₂ r₁ r₂ p₁ p₂ =
    let p = p₁ ∙ sym p₂ in (
      ap (λ (o : AtDesk Polling). record { number = o.done.number; accepted = o.done.accepted }) p,
      ap (λ (o : AtDesk Polling). o.done.state) p,
      ap (λ (o : AtDesk Polling). o.records) p,
    )

-- A TABLE, A LOG AND A STATE
module _ (κ : Three) (t t₁ t₂ log log₁ log₂ : Lent) (z z₁ z₂ : MutLent) (n n₁ n₂ m m₁ m₂ : ℕ) (r₁ r₂ : Judged) where
  pub replay_firm : (v v₁ v₂ : ℕ) → replay.Post κ (t, (n, (v, (log, (z, (m, tt)))))) r₁ (t₁, (n₁, (v₁, (log₁, (z₁, (m₁, tt))))))
      → replay.Post κ (t, (n, (v, (log, (z, (m, tt)))))) r₂ (t₂, (n₂, (v₂, (log₂, (z₂, (m₂, tt))))))
      → (r₁ ≡ r₂) × (z₁.now ≡ z₂.now)
  replay_firm v v₁ v₂ p₁ p₂ = let p = p₁ ∙ sym p₂ in (ap (λ (o : Replayed). o.answer) p, ap (λ (o : Replayed). o.state) p)

  pub resume_firm : resume.Post κ (t, (n, (z, (m, (log, tt))))) r₁ (t₁, (n₁, (z₁, (m₁, (log₁, tt))))) → resume.Post κ (t, (n, (z, (m, (log, tt))))) r₂ (t₂, (n₂, (z₂, (m₂, (log₂, tt)))))
      → (r₁ ≡ r₂) × (z₁.now ≡ z₂.now)
  resume_firm p₁ p₂ = let p = p₁ ∙ sym p₂ in (ap (λ (o : Replayed). o.answer) p, ap (λ (o : Replayed). o.state) p)

-- A PIECE OF A LOG, in a buffer
module _ (κ : One) (out out₁ out₂ : MutLent) (r₁ r₂ : Piece) where
  pub log_begin_firm : log-begin.Post κ (out, tt) r₁ (out₁, tt) → log-begin.Post κ (out, tt) r₂ (out₂, tt) → (r₁ ≡ r₂) × (out₁.now ≡ out₂.now)
  log_begin_firm p₁ p₂ = pieced r₁ r₂ out₁.now out₂.now _ p₁ p₂

  pub log_end_firm : log_end.Post κ (out, tt) r₁ (out₁, tt) → log_end.Post κ (out, tt) r₂ (out₂, tt) → (r₁ ≡ r₂) × (out₁.now ≡ out₂.now)
  log_end_firm p₁ p₂ = pieced r₁ r₂ out₁.now out₂.now _ p₁ p₂

  module _ (moment moment₁ moment₂ : ℕ) where
    pub log_step_firm : (s s₁ s₂ : Name) (a a₁ a₂ : Taken) → log-step.Post κ (s, (a, (moment, (out, tt)))) r₁ (s₁, (a₁, (moment₁, (out₁, tt))))
        → log-step.Post κ (s, (a, (moment, (out, tt)))) r₂ (s₂, (a₂, (moment₂, (out₂, tt))))
        → (r₁ ≡ r₂) × (out₁.now ≡ out₂.now)
    log_step_firm s s₁ s₂ a a₁ a₂ p₁ p₂ = pieced r₁ r₂ out₁.now out₂.now _ p₁ p₂

    pub log_post_firm : (name name₁ name₂ : ℕ) (g g₁ g₂ : Tuple) → log-post.Post κ (name, (g, (moment, (out, tt)))) r₁ (name₁, (g₁, (moment₁, (out₁, tt))))
        → log-post.Post κ (name, (g, (moment, (out, tt)))) r₂ (name₂, (g₂, (moment₂, (out₂, tt))))
        → (r₁ ≡ r₂) × (out₁.now ≡ out₂.now)
    log_post_firm name name₁ name₂ g g₁ g₂ p₁ p₂ = pieced r₁ r₂ out₁.now out₂.now _ p₁ p₂

-- WHICH LIBRARY
module _ (κ : None) (r₁ r₂ : ℕ) where
  pub version_firm : version.Post κ tt r₁ tt → version.Post κ tt r₂ tt → r₁ ≡ r₂
  version_firm p₁ p₂ = p₁ ∙ sym p₂

  pub abi_firm : abi.Post κ tt r₁ tt → abi.Post κ tt r₂ tt → r₁ ≡ r₂
  abi_firm p₁ p₂ = p₁ ∙ sym p₂
