use Rattle.xml_document.specs.Around.{last_from}
use borrow.Author.Rules.{rules}
use Rattle.xml_document.proofs.around.last_from.Goals as goal

pub outside_from-requires : goal.outside_from-requires
unfolding last_from
outside_from-requires c = search rules

pub last_by-requires : goal.last_by-requires
unfolding last_from
last_by-requires c = search rules

pub returns : goal.returns
unfolding last_from
returns c = rw c.outside_from.ensures at c.last_by.ensures
