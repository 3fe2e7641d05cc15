use Rattle.step_run.proofs.RunLaws.{some_left, none_left}
use Rattle.step_run.proofs.whether_left.Goals as goal

pub returns-then-first-eq0 : goal.returns-then-first-eq0
returns-then-first-eq0 c = some_left _ _ c.list_on-first.ensures c.if-first-eq0.true

pub returns-else-first-eq0 : goal.returns-else-first-eq0
returns-else-first-eq0 c = none_left _ _ c.list_on-first.ensures c.if-first-eq0.false
