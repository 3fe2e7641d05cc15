use Rattle.tool_print.proofs.LentLaws.{first_long, step_done}
use Rattle.tool_print.proofs.take.Goals as goal

pub slice_bounds-step-end-2 : goal.slice_bounds-step-end-2
slice_bounds-step-end-2 c = first_long _ c.args.rs.now _ c.lent-n.ensures

pub returns : goal.returns
returns c = step_done _ _ _ c.lent-n.ensures _ _ _ _ _ c.step.ensures
