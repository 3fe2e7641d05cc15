use Rattle.text_parts.specs.Parts.{task_part}
use Rattle.text_readers.proofs.ReadingLaws.{then_stopped, then_passed, sign_stopped, sign_passed}
use Rattle.text_parts.proofs.task_part.Goals as goal

pub returns-in_err-q : goal.returns-in_err-q
unfolding task_part
returns-in_err-q c = then_stopped _ _ _ _ _ _ _ c.number_in.ensures _ _ c.in_err-q.was c.from_residual.ensures.1

pub returns-in_err-a : goal.returns-in_err-a
unfolding task_part
returns-in_err-a c = then_passed _ _ _ _ _ _ _ c.number_in.ensures _ _ c.in_ok-q.was (sign_stopped _ _ _ _ _ _ c.sign_at.ensures _ _ c.in_err-a.was c.from_residual-in_err-a.ensures.1)

pub returns-in_err-b : goal.returns-in_err-b
unfolding task_part
returns-in_err-b c = then_passed _ _ _ _ _ _ _ c.number_in.ensures _ _ c.in_ok-q.was (sign_passed _ _ _ _ _ _ c.sign_at.ensures _ _ c.in_ok-a.was (then_stopped _ _ _ _ _ _ _ c.mode_in.ensures _ _ c.in_err-b.was c.from_residual-in_err-b.ensures.1))

pub returns : goal.returns
unfolding task_part
returns c = then_passed _ _ _ _ _ _ _ c.number_in.ensures _ _ c.in_ok-q.was (sign_passed _ _ _ _ _ _ c.sign_at.ensures _ _ c.in_ok-a.was (then_passed _ _ _ _ _ _ _ c.mode_in.ensures _ _ c.in_ok-b.was c.guard_and_assignments.ensures))
