use Rattle.log_repair.proofs.RepairLaws.{closing_put}
use Rattle.log_repair.proofs.put_closing.Goals as goal

pub returns : goal.returns
returns c = closing_put _ _ _ _ _ _ _ _ _ _ c.tag_of-tag.ensures c.markup.ensures c.put_trace_end-behind.ensures c.put_end_tag.ensures
