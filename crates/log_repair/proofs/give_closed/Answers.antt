use Rattle.log_repair.proofs.RepairLaws.{long_measured, short_measured, room_measured}
use Rattle.log_repair.proofs.give_closed.Goals as goal

pub returns-then-n-gt-TEXT_MOST : goal.returns-then-n-gt-TEXT_MOST
returns-then-n-gt-TEXT_MOST c = long_measured _ _ _ _ _ c.closed_length-n.ensures _ c.refused.ensures c.if-n-gt-TEXT_MOST.true

pub returns-then-out-n : goal.returns-then-out-n
returns-then-out-n c = short_measured _ _ _ _ _ c.closed_length-n.ensures _ c.refused-then-out-n.ensures c.if-n-gt-TEXT_MOST.false c.if-out-n.true

pub returns : goal.returns
returns c = room_measured _ _ _ _ _ c.closed_length-n.ensures _ _ _ c.if-n-gt-TEXT_MOST.false c.if-out-n.false c.put_closed-end.ensures.0 c.put_closed-end.ensures.1 c.back.ensures
