use Rattle.tool_print.proofs.LentLaws.{first_long, count_done}
use Rattle.tool_print.proofs.set_records.Goals as goal

pub slice_bounds-figures-end-2 : goal.slice_bounds-figures-end-2
slice_bounds-figures-end-2 c = first_long _ c.args.rs.now _ c.lent-n.ensures

pub returns : goal.returns
returns c = count_done _ _ _ c.lent-n.ensures _ _ _ c.figures.ensures
