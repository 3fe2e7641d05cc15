use Rattle.draw_conditions.proofs.SayingLaws.{markup_none, markup_past}
use Rattle.draw_conditions.proofs.saying.markup_step.Goals as goal

pub returns-in_default : goal.returns-in_default
returns-in_default c = markup_none _ _ _ c.outline-o.ensures c.in_default.not-Past

pub returns : goal.returns
returns c = markup_past _ _ _ c.outline-o.ensures _ _ c.in-Past.is _ c.step_by.ensures
