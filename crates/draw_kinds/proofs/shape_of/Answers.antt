use Rattle.draw_kinds.proofs.KindLaws.{before_next, shape_none}
use Rattle.draw_kinds.proofs.shape_of.Goals as goal

pub loop-j-init : goal.loop-j-init
loop-j-init c = shape_none _ _

pub with_thing-d-requires : goal.with_thing-d-requires
with_thing-d-requires c = before_next _ _ _ _ c.loop-j.invariant
