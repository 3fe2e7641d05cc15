use Rattle.text_passes.specs.Passes.{kept_element, stored}
use borrow.Author.Rules.{rules}
use Rattle.text_passes.proofs.keep.keep_element.Goals as goal

pub keep_counted-requires : goal.keep_counted-requires
unfolding kept_element stored
keep_counted-requires c = search rules

pub returns : goal.returns
unfolding kept_element stored
returns c = c.keep_counted.ensures
