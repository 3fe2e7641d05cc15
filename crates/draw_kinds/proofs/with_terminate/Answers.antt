use Rattle.draw_kinds.proofs.KindLaws.{shape_terminate}
use Rattle.draw_kinds.proofs.with_terminate.Goals as goal

pub returns : goal.returns
returns c = shape_terminate _ _ _ _ c.requires.0 c.requires.1 _ _ c.within_of.ensures c.one_if-inside.ensures.0
