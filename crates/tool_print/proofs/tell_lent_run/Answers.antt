use mathlib.Core.Path.{ap}
use Rattle.engine.specs.Engine.{RanTo}
use Rattle.engine.specs.Desk.{AtDesk}
use Rattle.tool_print.proofs.LentLaws.{first_long, run_done}
use Rattle.tool_print.proofs.tell_lent_run.Goals as goal

pub slice_bounds-tell_run-end-2 : goal.slice_bounds-tell_run-end-2
slice_bounds-tell_run-end-2 g c = first_long _ c.args.rs.now _ c.lent-n.ensures

pub returns : goal.returns
returns g c = ap (λ (a : AtDesk RanTo). a.done.state) (run_done _ _ _ c.lent-n.ensures _ _ _ _ _ _ _ c.tell_run.ensures)
