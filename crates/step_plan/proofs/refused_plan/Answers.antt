use Rattle.step_plan.proofs.refused_plan.Goals as goal

pub returns : goal.returns
returns c = rw (c.empty_tuple.ensures, c.empty_tuple-2.ensures)
