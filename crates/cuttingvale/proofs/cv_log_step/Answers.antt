use Rattle.cuttingvale.proofs.cv_log_step.Goals as goal

pub returns : goal.returns
returns c = rw c.answer_of.ensures at c.step.ensures
