use Rattle.tool_print.proofs.LentLaws.{first_long, run_done}
use Rattle.tool_print.proofs.run_all.Goals as goal

pub slice_bounds-run-end-2 : goal.slice_bounds-run-end-2
slice_bounds-run-end-2 c = first_long _ c.args.rs.now _ c.lent-n.ensures

pub returns : goal.returns
returns c = run_done _ _ _ c.lent-n.ensures _ _ _ _ _ _ _ c.run.ensures
