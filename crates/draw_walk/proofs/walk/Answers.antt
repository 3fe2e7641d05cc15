use Rattle.draw_walk.proofs.Laws.{walk_rootless, walk_refused, walk_whole}
use Rattle.draw_walk.proofs.walk.Goals as goal

pub returns-in_default : goal.returns-in_default
returns-in_default c = walk_rootless _ _ _ c.root_at-root.ensures _ c.in_default.is

pub returns-in_default-end : goal.returns-in_default-end
returns-in_default-end c = walk_refused _ _ _ c.root_at-root.ensures _ c.in-Ok.is _ _ c.walk_thing-e.ensures _ c.in_default-end.is

pub returns : goal.returns
returns c = walk_whole _ _ _ c.root_at-root.ensures _ c.in-Ok.is _ _ c.walk_thing-e.ensures _ c.in-Ok-end.is _ c.last_from.ensures
