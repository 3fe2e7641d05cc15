use Rattle.text_parts.specs.Parts.{receiving}
use Rattle.text_readers.proofs.ReadingLaws.{sign_stopped, then_stopped, sign_passed, then_passed}
use Rattle.text_parts.proofs.receiving.Goals as goal

pub returns-in_err-q : goal.returns-in_err-q
unfolding receiving
returns-in_err-q c = sign_stopped _ _ _ _ _ _ c.sign_at.ensures _ _ c.in_err-q.was c.from_residual.ensures.1

pub returns-in_err-a : goal.returns-in_err-a
unfolding receiving
returns-in_err-a c = sign_passed _ _ _ _ _ _ c.sign_at.ensures _ _ c.in_ok-q.was (then_stopped _ _ _ _ _ _ _ c.message.ensures _ _ c.in_err-a.was c.from_residual-in_err-a.ensures.1)

pub returns : goal.returns
unfolding receiving
returns c = sign_passed _ _ _ _ _ _ c.sign_at.ensures _ _ c.in_ok-q.was (then_passed _ _ _ _ _ _ _ c.message.ensures _ _ c.in_ok-a.was c.receiving_exit.ensures)
