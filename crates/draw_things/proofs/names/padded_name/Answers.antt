use Rattle.draw_things.specs.Names.{rows}
use Rattle.draw_things.proofs.NameLaws.{name_in}
use Rattle.draw_things.proofs.names.padded_name.Goals as goal

pub returns : goal.returns
unfolding rows
returns c = name_in _ _ c.requires
