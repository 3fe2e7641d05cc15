use Rattle.state_figures.proofs.DeskLaws.{number_first, number_wrong, number_right}
use mathlib.Core.Path.{ap}
use mathlib.Core.Bool.{not}
use Rattle.state_figures.proofs.desk_number.Goals as goal

pub returns-then-number-ne-ACCEPTED : goal.returns-then-number-ne-ACCEPTED
returns-then-number-ne-ACCEPTED c = number_first _ _ _ _ c.if-number-ne-ACCEPTED.true

pub returns-then-not-records_agree : goal.returns-then-not-records_agree
returns-then-not-records_agree c = number_wrong _ _ _ _ _ c.records_agree.ensures c.if-number-ne-ACCEPTED.false (ap not c.if-not-records_agree.true)

pub returns : goal.returns
returns c = number_right _ _ _ _ _ c.records_agree.ensures c.if-number-ne-ACCEPTED.false (ap not c.if-not-records_agree.false)
