use Rattle.draw_conditions.proofs.SayingLaws.{skip_none, skip_past}
use Rattle.draw_conditions.proofs.saying.skip_markup.Goals as goal

pub returns-in_default : goal.returns-in_default
returns-in_default c = skip_none _ _ _ c.outline-o.ensures _ c.in_default.not-Past

pub returns : goal.returns
returns c = skip_past _ _ _ c.outline-o.ensures _ _ _ c.in-Past.is _ c.skip_by.ensures
