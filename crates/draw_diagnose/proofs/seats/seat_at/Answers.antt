use Rattle.draw_diagnose.proofs.Laws.{seat_nowhere}
use Rattle.draw_diagnose.proofs.Laws.{seat_there}
use Rattle.draw_diagnose.proofs.seats.seat_at.Goals as goal

pub returns-then-k-n : goal.returns-then-k-n
returns-then-k-n c = seat_there _ _ _ _ _ c.first_seat-k.ensures _ c.if-k-n.true c.place_of.ensures

pub returns : goal.returns
returns c = seat_nowhere _ _ _ _ _ c.first_seat-k.ensures c.if-k-n.false
