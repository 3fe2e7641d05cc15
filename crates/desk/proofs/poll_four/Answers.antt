use Rattle.desk.proofs.FourLaws.{part_fits, part_long, poll_done}
use Rattle.desk.proofs.poll_four.Goals as goal

pub slice_bounds-ws-end : goal.slice_bounds-ws-end
slice_bounds-ws-end c = part_fits _ _ _ c.words_of-ws.ensures c.lent_count-lent.ensures

pub slice_bounds-poll-end : goal.slice_bounds-poll-end
slice_bounds-poll-end c = part_long _ _ _ c.words_of-ws.ensures c.lent_count-lent.ensures

pub returns : goal.returns
returns c = poll_done _ _ _ c.words_of-ws.ensures c.lent_count-lent.ensures _ _ c.four_of-four.ensures _ _ _ _ _ _ _ c.poll-polled.ensures
