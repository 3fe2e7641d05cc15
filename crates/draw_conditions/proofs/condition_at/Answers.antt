use Rattle.draw_conditions.proofs.ConditionLaws.{at_fault, at_none, at_start}
use Rattle.draw_conditions.proofs.condition_at.Goals as goal

pub returns-in_default : goal.returns-in_default
returns-in_default c = at_fault _ _ _ c.outline-o.ensures _ c.in_default.not-Past c.bare.ensures

pub returns-in_default-sort : goal.returns-in_default-sort
returns-in_default-sort c = at_none _ _ _ c.outline-o.ensures _ _ _ c.in-Past.is c.in_default-sort.not-StartTag c.bare-in_default-sort.ensures

pub returns : goal.returns
returns c = at_start _ _ _ c.outline-o.ensures _ _ _ c.in-Past.is c.in-StartTag.is _ c.behind.ensures c.condition_of.ensures
