use Rattle.step_take.proofs.DecidingLaws.{number_by_lem}
use Rattle.step_take.proofs.deciding.number_at.Goals as goal

pub returns : goal.returns
returns c = number_by_lem _ _ _ _ _ _ _ _ _ _ _ c.copy_in-h.ensures c.decide_in-plan.ensures
