use Rattle.text_terms.specs.Terms.{assignment}
use Rattle.text_readers.proofs.ReadingLaws.{then_stopped, then_passed, assign_stopped, assign_passed}
use Rattle.text_terms.proofs.assignment.Goals as goal

pub returns-in_err-q : goal.returns-in_err-q
unfolding assignment
returns-in_err-q c = then_stopped _ _ _ _ _ _ _ c.field_in.ensures _ _ c.in_err-q.was c.from_residual.ensures.1

pub returns-in_err-a : goal.returns-in_err-a
unfolding assignment
returns-in_err-a c = then_passed _ _ _ _ _ _ _ c.field_in.ensures _ _ c.in_ok-q.was (assign_stopped _ _ _ _ _ c.assign_at.ensures _ _ c.in_err-a.was c.from_residual-in_err-a.ensures.1)

pub returns : goal.returns
unfolding assignment
returns c = then_passed _ _ _ _ _ _ _ c.field_in.ensures _ _ c.in_ok-q.was (assign_passed _ _ _ _ _ c.assign_at.ensures _ _ c.in_ok-a.was c.expression.ensures)
