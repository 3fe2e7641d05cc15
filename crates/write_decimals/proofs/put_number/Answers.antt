use Rattle.write_buffer.proofs.OverLaws.{put_long}
use Rattle.write_decimals.proofs.PutLaws.{placed_start, placed_turn, placed_end}
use Rattle.write_decimals.proofs.put_number.Goals as goal

pub loop-power-init : goal.loop-power-init
loop-power-init c = placed_start c.first_power-power.ensures

pub loop-power-preserved : goal.loop-power-preserved
loop-power-preserved c = placed_turn c.loop-power.invariant c.loop-power-test.true c.put_byte-to.ensures

pub shape_of-out : goal.shape_of-out
shape_of-out c = put_long c.loop-power.invariant.text

pub returns : goal.returns
returns c = placed_end c.loop-power.invariant c.loop-power-test.false
