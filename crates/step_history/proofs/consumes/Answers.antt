use Rattle.step_history.proofs.CodeLaws.{consumes_refused, consumes_other, consumes_this}
use Rattle.step_history.proofs.consumes.Goals as goal

pub returns-then-a-ne-ACCEPTED : goal.returns-then-a-ne-ACCEPTED
returns-then-a-ne-ACCEPTED c = consumes_refused _ _ _ _ c.if-a-ne-ACCEPTED.true

pub returns-in_default : goal.returns-in_default
returns-in_default c = consumes_other _ _ _ _ c.in_default.not-Consumed

pub returns : goal.returns
returns c = consumes_this _ _ _ _ _ c.if-a-ne-ACCEPTED.false c.in-Consumed.is c.is_message.ensures
