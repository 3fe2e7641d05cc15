use Rattle.desk.proofs.FourLaws.{part_fits, part_long, run_done}
use Rattle.desk.proofs.run_four.Goals as goal

pub slice_bounds-ws-end : goal.slice_bounds-ws-end
slice_bounds-ws-end c = part_fits _ _ _ c.words_of-ws.ensures c.lent_count-count.ensures

pub slice_bounds-run-end : goal.slice_bounds-run-end
slice_bounds-run-end c = part_long _ _ _ c.words_of-ws.ensures c.lent_count-count.ensures

pub returns : goal.returns
returns c = run_done _ _ _ c.words_of-ws.ensures c.lent_count-count.ensures _ _ c.four_of-four.ensures _ _ _ _ _ _ _ c.run-ran.ensures
