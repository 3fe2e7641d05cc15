use Rattle.desk.proofs.FourLaws.{part_fits, part_long, step_done}
use Rattle.desk.proofs.step_four.Goals as goal

pub slice_bounds-ws-end : goal.slice_bounds-ws-end
slice_bounds-ws-end c = part_fits _ _ _ c.words_of-ws.ensures c.lent_count-count.ensures

pub slice_bounds-step-end : goal.slice_bounds-step-end
slice_bounds-step-end c = part_long _ _ _ c.words_of-ws.ensures c.lent_count-count.ensures

pub returns : goal.returns
returns c = step_done _ _ _ c.words_of-ws.ensures c.lent_count-count.ensures _ _ c.four_of-four.ensures _ _ _ _ _ c.step-answer.ensures
