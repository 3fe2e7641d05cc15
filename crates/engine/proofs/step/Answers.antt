use Rattle.engine.proofs.DeskLaws.{step_refused, step_taken}
use Rattle.engine.proofs.step.Goals as goal

pub returns-then-number-ne-ACCEPTED : goal.returns-then-number-ne-ACCEPTED
returns-then-number-ne-ACCEPTED c = step_refused _ _ _ _ c.records_number-number.ensures.0 c.if-number-ne-ACCEPTED.true _ _ c.refuse.ensures

pub returns : goal.returns
returns c = step_taken _ _ _ _ c.records_number-number.ensures.0 c.records_number-number.ensures.1 c.records_number-number.ensures.2 c.if-number-ne-ACCEPTED.false _ _ _ _ c.step_on-a.ensures c.follow_in.ensures
