use Rattle.text_readers.proofs.ReadingLaws.{sign_last, then_passed, then_stopped, sign_passed, sign_stopped}
use Rattle.text_passes.proofs.pools.number_between.Goals as goal

pub returns-in_err-p : goal.returns-in_err-p
returns-in_err-p c = sign_stopped _ _ _ _ _ _ c.sign_at.ensures _ _ c.in_err-p.was c.from_residual.ensures.1

pub returns-in_err-q : goal.returns-in_err-q
returns-in_err-q c = sign_passed _ _ _ _ _ _ c.sign_at.ensures _ _ c.in_ok-p.was (then_stopped _ _ _ _ _ _ _ c.number_in.ensures _ _ c.in_err-q.was c.from_residual-in_err-q.ensures.1)

pub returns : goal.returns
returns c = sign_passed _ _ _ _ _ _ c.sign_at.ensures _ _ c.in_ok-p.was (then_passed _ _ _ _ _ _ _ c.number_in.ensures _ _ c.in_ok-q.was (sign_last _ _ _ _ _ c.sign_at-2.ensures))
