use Rattle.tool_print.proofs.LentLaws.{lent_is}
use Rattle.tool_print.proofs.lent.Goals as goal

pub returns : goal.returns
returns c = lent_is _ _ _ _ _ c.pool_count.ensures c.wide.ensures c.least.ensures
