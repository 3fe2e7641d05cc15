use Rattle.xml_document.specs.Document.{opens_data}
use borrow.Author.Rules.{rules}
use Rattle.xml_document.proofs.opens_data.Goals as goal

pub begins_at-requires : goal.begins_at-requires
unfolding opens_data
begins_at-requires c = search rules

pub returns : goal.returns
unfolding opens_data
returns c = c.begins_at.ensures
