use Rattle.draw_chart.proofs.PutLaws.{all_done, all_more, all_none}
use Rattle.draw_map.specs.Map.{all_of}
use Rattle.write_buffer.proofs.OverLaws.{put_long}
use Rattle.draw_chart.proofs.pools.put_all_of.Goals as goal

pub loop-k-init : goal.loop-k-init
loop-k-init c = all_none _ _ _

pub loop-k-preserved : goal.loop-k-preserved
loop-k-preserved c = all_more _ _ c.loop-k.invariant c.put_lines_of-end.ensures

pub shape_of-out : goal.shape_of-out
shape_of-out c = put_long c.loop-k.invariant

pub returns : goal.returns
unfolding all_of
returns c = all_done _ _ _ c.loop-k-test.false c.loop-k.auto.k-end c.loop-k.invariant
