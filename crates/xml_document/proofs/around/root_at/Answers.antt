use Rattle.xml_document.specs.Around.{root_at}
use borrow.Author.Rules.{rules}
use Rattle.xml_document.proofs.around.root_at.Goals as goal

pub first-requires : goal.first-requires
unfolding root_at
first-requires c = search rules

pub outside_from-requires : goal.outside_from-requires
unfolding root_at
outside_from-requires c = search rules

pub root_by-requires : goal.root_by-requires
unfolding root_at
root_by-requires c = search rules

pub returns : goal.returns
unfolding root_at
returns c = rw (c.outside_from.ensures, c.first.ensures) at c.root_by.ensures
