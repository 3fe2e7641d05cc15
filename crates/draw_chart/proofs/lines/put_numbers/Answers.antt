use Rattle.draw_chart.proofs.PutLaws.{all_done, all_more, all_none}
use Rattle.draw_map.specs.Map.{numbers}
use Rattle.write_buffer.proofs.OverLaws.{put_long}
use Rattle.draw_chart.proofs.lines.put_numbers.Goals as goal

pub loop-x-init : goal.loop-x-init
loop-x-init c = all_none _ _ _

pub loop-x-preserved : goal.loop-x-preserved
loop-x-preserved c = all_more _ _ c.loop-x.invariant c.put_next-end.ensures

pub shape_of-out : goal.shape_of-out
shape_of-out c = put_long c.loop-x.invariant

pub returns : goal.returns
unfolding numbers
returns c = all_done _ _ _ c.loop-x-test.false c.loop-x.auto.x-index-end c.loop-x.invariant
