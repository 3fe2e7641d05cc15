use Rattle.draw_kinds.specs.Roles.{kind_drawn}
use Rattle.draw_kinds.proofs.KindLaws.{kind_caught}
use mathlib.Core.Path.{◌∙◌}
use Rattle.draw_kinds.proofs.kind_drawn.Goals as goal

pub returns : goal.returns
unfolding kind_drawn
returns c = (rw (c.caught_by.ensures, c.sort_of-s.ensures, c.shape_of.ensures) at c.kind_by.ensures) ∙ kind_caught _ _ _
