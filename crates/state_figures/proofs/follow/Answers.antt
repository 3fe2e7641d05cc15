use Rattle.state_figures.proofs.DeskLaws.{followed_step, followed_none}
use Rattle.state_figures.proofs.follow.Goals as goal

pub returns-then-number-eq-ACCEPTED : goal.returns-then-number-eq-ACCEPTED
returns-then-number-eq-ACCEPTED c = followed_step _ _ _ _ _ _ _ c.if-number-eq-ACCEPTED.true c.pool_of.ensures c.update.ensures

pub returns-else-number-eq-ACCEPTED : goal.returns-else-number-eq-ACCEPTED
returns-else-number-eq-ACCEPTED c = followed_none _ _ _ _ _ c.if-number-eq-ACCEPTED.false
