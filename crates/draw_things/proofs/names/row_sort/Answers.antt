use mathlib.Core.Path.{◌∙◌}
use Rattle.draw_things.specs.Names.{rows}
use Rattle.draw_things.proofs.NameLaws.{sort_in, sort_out}
use Rattle.draw_things.proofs.names.row_sort.Goals as goal

pub returns-then-i-ge-ROWS : goal.returns-then-i-ge-ROWS
returns-then-i-ge-ROWS c = sort_out _ c.if-i-ge-ROWS.true

pub returns : goal.returns
unfolding rows
returns c = c.byte.ensures ∙ sort_in _ _ c.if-i-ge-ROWS.false
