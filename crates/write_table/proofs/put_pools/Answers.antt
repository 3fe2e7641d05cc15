use Rattle.write_buffer.proofs.OverLaws.{put_as, put_within, pieces_none, pieces_more, pieces_done}
use Rattle.write_shown.specs.Shown.{shown_pools}
use Rattle.write_table.specs.Pieces.{next_pool}
use mathlib.Core.Path.{refl}
use native.Mathlib.Omega.{arith}
use Rattle.write_table.proofs.put_pools.Goals as goal

pub loop-p-init : goal.loop-p-init
loop-p-init c = put_within (pieces_none _ _ _) (omega arith)

pub loop-p-preserved : goal.loop-p-preserved
loop-p-preserved c = put_within (pieces_more _ _ c.loop-p.invariant c.put_next_pool-end.ensures) (omega arith)

pub returns : goal.returns
unfolding shown_pools next_pool
returns c = put_within (put_as _ refl (pieces_done _ _ _ c.loop-p-test.false c.loop-p.auto.p-end c.loop-p.invariant)) (omega arith)
