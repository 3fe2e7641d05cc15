use Rattle.text_readers.proofs.ReadingLaws.{sign_stopped, then_stopped, sign_passed, then_passed, sign_last}
use Rattle.text_terms.proofs.guard.Goals as goal

pub returns-in_err-q : goal.returns-in_err-q
returns-in_err-q c = sign_stopped _ _ _ _ _ _ c.sign_at.ensures _ _ c.in_err-q.was c.from_residual.ensures.1

pub returns-in_err-a : goal.returns-in_err-a
returns-in_err-a c = sign_passed _ _ _ _ _ _ c.sign_at.ensures _ _ c.in_ok-q.was (then_stopped _ _ _ _ _ _ _ c.condition_of.ensures _ _ c.in_err-a.was c.from_residual-in_err-a.ensures.1)

pub returns : goal.returns
returns c = sign_passed _ _ _ _ _ _ c.sign_at.ensures _ _ c.in_ok-q.was (then_passed _ _ _ _ _ _ _ c.condition_of.ensures _ _ c.in_ok-a.was (sign_last _ _ _ _ _ c.sign_at-2.ensures))
