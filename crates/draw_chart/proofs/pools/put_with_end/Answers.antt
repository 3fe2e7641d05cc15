use Rattle.draw_chart.proofs.PutLaws.{then}
use Rattle.draw_map.specs.Map.{with_end}
use borrow.Author.Rules.{rules}
use Rattle.draw_chart.proofs.pools.put_with_end.Goals as goal

pub put_element-head-requires : goal.put_element-head-requires
unfolding with_end
put_element-head-requires c = search rules

pub put_within-requires : goal.put_within-requires
unfolding with_end
put_within-requires c = search rules

pub returns : goal.returns
unfolding with_end
returns c = then c.put_element-head.ensures c.put_within.ensures
