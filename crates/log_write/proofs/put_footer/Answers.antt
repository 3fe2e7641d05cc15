use Rattle.log_write.specs.Xes.{footer}
use borrow.Author.Rules.{rules}
use Rattle.log_write.proofs.put_footer.Goals as goal

pub put_bytes-requires : goal.put_bytes-requires
unfolding footer
put_bytes-requires c = search rules

pub returns : goal.returns
unfolding footer
returns c = c.put_bytes.ensures
