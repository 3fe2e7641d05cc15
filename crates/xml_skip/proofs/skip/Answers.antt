use Rattle.xml_skip.specs.Skipping.{skipped}
use borrow.Author.Rules.{rules}
use Rattle.xml_skip.proofs.skip.Goals as goal

pub skip_element-requires : goal.skip_element-requires
unfolding skipped
skip_element-requires c = search rules

pub returns : goal.returns
unfolding skipped
returns c = c.skip_element.ensures
