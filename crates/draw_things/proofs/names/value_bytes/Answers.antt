use Rattle.draw_things.proofs.AttributeLaws.{value_is, value_absent}
use Rattle.draw_things.proofs.names.value_bytes.Goals as goal

pub returns-in-Some : goal.returns-in-Some
returns-in-Some c = value_is _ _ _ _ c.in-Some.is _ c.piece.ensures

pub returns-in-None : goal.returns-in-None
returns-in-None c = value_absent _ _ c.in-None.is _ c.piece-in-None.ensures
