use Rattle.base_bytes.proofs.PieceLaws.{piece_least}
use Rattle.base_bytes.proofs.piece.Goals as goal

pub returns : goal.returns
returns c = piece_least _ _ _ _ _ c.min-end.ensures c.min-start.ensures
