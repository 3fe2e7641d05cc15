use Rattle.step_expressions.proofs.conditions.condition_of.Goals as goal

pub returns : goal.returns
returns c = rw c.condition_at.ensures at c.condition.ensures
