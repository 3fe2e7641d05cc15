use Rattle.base_words.specs.Words.{at}
use Rattle.draw_read.specs.Drawings.{settled_by}
use borrow.Author.Rules.{rules}
use Rattle.draw_diagnose.proofs.settle.Goals as goal

pub links-requires : goal.links-requires
unfolding settled_by
links-requires c = search rules

pub roles-requires : goal.roles-requires
unfolding settled_by
roles-requires c = search rules

pub returns : goal.returns
unfolding settled_by
returns c = rw c.links.ensures at c.roles.ensures
