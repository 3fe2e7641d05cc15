use Rattle.draw_kinds.proofs.KindLaws.{shape_message}
use Rattle.draw_kinds.proofs.with_message.Goals as goal

pub returns : goal.returns
returns c = shape_message _ _ _ _ c.requires.0 c.requires.1 _ _ c.within_of.ensures c.one_if-inside.ensures.0
