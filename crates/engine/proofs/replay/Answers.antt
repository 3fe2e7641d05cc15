use Rattle.engine.specs.Replay.{replayed_to}
use Rattle.engine.proofs.JudgeLaws.{kept_state, lent_state}
use Rattle.engine.proofs.replay.Goals as goal

pub returns-then-r-eq-ACCEPTED : goal.returns-then-r-eq-ACCEPTED
unfolding replayed_to
returns-then-r-eq-ACCEPTED c = kept_state _ _ _ _ c.judge_in-r.ensures.0 _ c.if-r-eq-ACCEPTED.true c.judge_in-r.ensures.1

pub returns-else-r-eq-ACCEPTED : goal.returns-else-r-eq-ACCEPTED
unfolding replayed_to
returns-else-r-eq-ACCEPTED c = lent_state _ _ _ _ c.judge_in-r.ensures.0 c.if-r-eq-ACCEPTED.false
