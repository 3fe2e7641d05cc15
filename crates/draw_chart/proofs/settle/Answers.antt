use Rattle.draw_read.specs.Drawings.{settled_by}
use borrow.Author.Rules.{rules}
use Rattle.draw_chart.proofs.settle.Goals as goal

ruleset L = (rules)

pub links-requires : goal.links-requires
unfolding settled_by
links-requires c = search L

pub roles-requires : goal.roles-requires
unfolding settled_by
roles-requires c = search L

pub shape_of-w : goal.shape_of-w
unfolding settled_by
shape_of-w c = search L

pub returns : goal.returns
unfolding settled_by
returns c = rw c.links.ensures at c.roles.ensures
