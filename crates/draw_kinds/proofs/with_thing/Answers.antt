use Rattle.draw_kinds.proofs.KindLaws.{shape_other}
use Rattle.draw_kinds.proofs.with_thing.Goals as goal

pub returns : goal.returns
returns c = shape_other _ _ _ _ c.requires _ c.sort_of-s.ensures c.if-s-eq-SEQUENCE_FLOW.false c.if-s-eq-MESSAGE_EVENT_DEFINITION.false c.if-s-eq-TERMINATE_EVENT_DEFINITION.false
