use native.Mathlib.Omega.{arith}
use Rattle.log_pieces.proofs.PieceLaws.{piece_short, piece_written}
use Rattle.log_pieces.proofs.post.Goals as goal

pub returns-then-out-size : goal.returns-then-out-size
returns-then-out-size c = piece_short (omega arith) c.put_post-size.ensures _ _ c.no_room.ensures c.if-out-size.true

pub returns : goal.returns
returns c = piece_written (omega arith) c.put_post-size.ensures (omega arith) c.if-out-size.false c.put_post-end.ensures
