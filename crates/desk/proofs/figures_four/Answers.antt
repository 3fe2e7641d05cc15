use Rattle.desk.proofs.FourLaws.{part_fits, part_long, figures_done}
use Rattle.desk.proofs.figures_four.Goals as goal

pub slice_bounds-ws-end : goal.slice_bounds-ws-end
slice_bounds-ws-end c = part_fits _ _ _ c.words_of-ws.ensures c.lent_count-count.ensures

pub slice_bounds-figures-end : goal.slice_bounds-figures-end
slice_bounds-figures-end c = part_long _ _ _ c.words_of-ws.ensures c.lent_count-count.ensures

pub returns : goal.returns
returns c = figures_done _ _ _ c.words_of-ws.ensures c.lent_count-count.ensures _ _ c.four_of-four.ensures _ _ _ c.figures-number.ensures
