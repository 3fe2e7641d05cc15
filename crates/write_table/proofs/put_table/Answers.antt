use Rattle.write_buffer.proofs.OverLaws.{after, put_over}
use Rattle.write_shown.specs.Shown.{shown_table}
use native.Mathlib.Omega.{arith}
use Rattle.write_table.proofs.put_table.Goals as goal

pub returns : goal.returns
unfolding shown_table
returns c = put_over (after c.put_pools-end.ensures c.put_byte.ensures) (omega arith)
