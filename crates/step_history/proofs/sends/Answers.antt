use Rattle.step_history.proofs.CodeLaws.{sends_refused, sends_other, sends_this}
use Rattle.step_history.proofs.sends.Goals as goal

pub returns-then-a-ne-ACCEPTED : goal.returns-then-a-ne-ACCEPTED
returns-then-a-ne-ACCEPTED c = sends_refused _ _ _ _ c.if-a-ne-ACCEPTED.true

pub returns-in_default : goal.returns-in_default
returns-in_default c = sends_other _ _ _ _ c.in_default.not-Sent

pub returns : goal.returns
returns c = sends_this _ _ _ _ _ c.if-a-ne-ACCEPTED.false c.in-Sent.is c.is_message.ensures
