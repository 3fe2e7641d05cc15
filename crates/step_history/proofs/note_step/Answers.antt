use Rattle.step_history.proofs.CodeLaws.{step_noted}
use native.Mathlib.Omega.{arith}
use Rattle.step_history.proofs.note_step.Goals as goal

pub returns : goal.returns
returns c = (step_noted _ _ _ _ _ _ _ _ _ c.sends.ensures c.one_if-sent.ensures.0 c.consumes.ensures c.one_if-consumed.ensures.0 c.moved_by_step-moved.ensures, omega arith, c.one_if-sent.ensures.1, c.one_if-consumed.ensures.1)
