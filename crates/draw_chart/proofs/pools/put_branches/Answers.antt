use Rattle.draw_chart.proofs.PutLaws.{all_done, all_more, all_none}
use Rattle.draw_map.specs.Map.{branch_lines}
use Rattle.write_buffer.proofs.OverLaws.{put_long}
use Rattle.draw_chart.proofs.pools.put_branches.Goals as goal

pub loop-j-init : goal.loop-j-init
loop-j-init c = all_none _ _ _

pub loop-j-preserved : goal.loop-j-preserved
loop-j-preserved c = all_more _ _ c.loop-j.invariant c.put_branch-end.ensures

pub shape_of-out : goal.shape_of-out
shape_of-out c = put_long c.loop-j.invariant

pub returns : goal.returns
unfolding branch_lines
returns c = all_done _ _ _ c.loop-j-test.false c.loop-j.auto.j-end c.loop-j.invariant
