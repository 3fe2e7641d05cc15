use Rattle.step_history.proofs.CodeLaws.{moved_refused, moved_quiet, moved_some}
use mathlib.Core.Path.{◌∙◌}
use Rattle.step_history.proofs.moved_by_step.Goals as goal

pub returns-then-a-ne-ACCEPTED : goal.returns-then-a-ne-ACCEPTED
returns-then-a-ne-ACCEPTED c = c.nothing_moved.ensures ∙ moved_refused _ _ c.if-a-ne-ACCEPTED.true

pub returns-in_default : goal.returns-in_default
returns-in_default c = moved_some _ _ c.if-a-ne-ACCEPTED.false c.in_default.not-Nothing

pub returns : goal.returns
returns c = c.nothing_moved-2.ensures ∙ moved_quiet _ _ c.if-a-ne-ACCEPTED.false c.in-Nothing.is
