use Rattle.tool_print.proofs.LentLaws.{fresh_done}
use Rattle.tool_print.proofs.tell_fresh_run.Goals as goal

pub returns : goal.returns
returns g c = fresh_done _ _ _ _ _ c.set_records.ensures _ c.tell_lent_run.ensures
