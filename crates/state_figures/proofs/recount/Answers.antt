use Rattle.state_figures.proofs.DeskLaws.{left_counted, left_same}
use Rattle.state_figures.proofs.recount.Goals as goal

pub count-requires : goal.count-requires
count-requires c = c.requires c.if-number-eq-ACCEPTED.true

pub returns-then-number-eq-ACCEPTED : goal.returns-then-number-eq-ACCEPTED
returns-then-number-eq-ACCEPTED c = left_counted _ _ _ _ _ c.if-number-eq-ACCEPTED.true c.count.ensures

pub returns-else-number-eq-ACCEPTED : goal.returns-else-number-eq-ACCEPTED
returns-else-number-eq-ACCEPTED c = left_same _ _ _ _ c.if-number-eq-ACCEPTED.false
