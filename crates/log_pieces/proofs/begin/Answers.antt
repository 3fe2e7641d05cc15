use native.Mathlib.Omega.{arith}
use Rattle.log_pieces.proofs.PieceLaws.{piece_short, piece_written}
use Rattle.log_pieces.proofs.begin.Goals as goal

pub returns-then-out-n : goal.returns-then-out-n
returns-then-out-n c = piece_short (omega arith) c.put_header-n.ensures _ _ c.no_room.ensures c.if-out-n.true

pub returns : goal.returns
returns c = piece_written (omega arith) c.put_header-n.ensures (omega arith) c.if-out-n.false c.put_header-end.ensures
