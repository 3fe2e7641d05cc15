use Rattle.draw_kinds.proofs.KindLaws.{shape_flow}
use Rattle.draw_kinds.proofs.with_flow.Goals as goal

pub returns : goal.returns
returns c = shape_flow _ _ _ _ c.requires.0 c.requires.1 _ _ _ _ c.target_of.ensures c.one_if-into.ensures.0 c.source_of.ensures c.one_if-out.ensures.0
