use Rattle.draw_things.proofs.AttributeLaws.{differs_not, differs_is}
use Rattle.draw_things.proofs.names.differs_at.Goals as goal

pub returns-in_default : goal.returns-in_default
returns-in_default c = differs_not _ _ _ _ _ c.byte.ensures c.whole-w.ensures c.in_default.not-Attribute

pub returns : goal.returns
returns c = differs_is _ _ _ _ _ c.byte.ensures c.whole-w.ensures c.in-Attribute.is _ c.piece.ensures _ c.value_behind.ensures _ c.differs.ensures
