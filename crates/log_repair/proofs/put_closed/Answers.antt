use native.Mathlib.Omega.{arith}
use Rattle.log_repair.proofs.RepairLaws.{closed_put}
use Rattle.log_repair.proofs.put_closed.Goals as goal

pub returns : goal.returns
returns c = closed_put _ _ _ _ _ _ _ _ c.piece.ensures c.put_bytes-kept.ensures c.put_closing.ensures (omega arith)
