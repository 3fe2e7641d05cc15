use Rattle.xml_markup.proofs.AheadLaws.{ahead_sure}
use Rattle.xml_markup.proofs.ahead.read_with.Goals as goal

pub returns-then-r-eq-FEW : goal.returns-then-r-eq-FEW
returns-then-r-eq-FEW c = ahead_sure _ _ _ _ _ _ _ _ c.read_ahead-r.ensures (λ name k. rw c.piece.ensures at (c.first_met-first.ensures c.if-first-ne-PLACES.false c.read_ahead-r.ensures.rising name k))

pub returns : goal.returns
returns c = ahead_sure _ _ _ _ _ _ _ _ c.read_ahead-r.ensures (λ name k. rw c.piece.ensures at (c.first_met-first.ensures c.if-first-ne-PLACES.false c.read_ahead-r.ensures.rising name k))
