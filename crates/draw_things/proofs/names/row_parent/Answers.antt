use Rattle.draw_things.specs.Names.{rows}
use Rattle.draw_things.proofs.NameLaws.{parent_is}
use Rattle.draw_things.proofs.names.row_parent.Goals as goal

pub returns : goal.returns
unfolding rows
returns c = parent_is _ _ c.byte.ensures
