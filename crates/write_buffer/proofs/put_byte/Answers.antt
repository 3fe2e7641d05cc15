use mathlib.Core.Path.{sym}
use native.Mathlib.Omega.{arith}
use lib.Seq.{set_out}
use Rattle.write_buffer.specs.Buffers.{end_written, over_from}
use Rattle.write_buffer.proofs.OverLaws.{next_least}
use Rattle.write_buffer.proofs.put_byte.Goals as goal

pub returns-else-from-out : goal.returns-else-from-out
unfolding end_written over_from
returns-else-from-out c = record { short = omega arith; place = grind (arith, next_least); text = sym (set_out _ _ _ c.if-from-out.false) }
