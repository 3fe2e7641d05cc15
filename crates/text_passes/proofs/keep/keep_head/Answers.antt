use Rattle.text_passes.specs.Passes.{headed, kept_head}
use borrow.Author.Rules.{rules}
use Rattle.text_passes.proofs.keep.keep_head.Goals as goal

pub keep_counted_head-requires : goal.keep_counted_head-requires
unfolding kept_head headed
keep_counted_head-requires c = search rules

pub returns : goal.returns
unfolding kept_head headed
returns c = c.keep_counted_head.ensures
