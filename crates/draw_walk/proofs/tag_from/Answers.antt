use mathlib.Core.Path.{refl}
use Rattle.draw_walk.specs.Walk.{tag_from}
use Rattle.draw_walk.proofs.tag_from.Goals as goal

pub returns-in-Ok : goal.returns-in-Ok
unfolding tag_from
returns-in-Ok c = rw c.in-Ok.is refl

pub returns-in-Err : goal.returns-in-Err
unfolding tag_from
returns-in-Err c = rw c.in-Err.is refl
