use Rattle.draw_chart.proofs.PutLaws.{puts_as}
use Rattle.draw_chart.proofs.PutLaws.{then}
use Rattle.draw_map.specs.Map.{with_belonging}
use borrow.Author.Rules.{rules}
use Rattle.draw_chart.proofs.pools.put_with_belonging.Goals as goal

pub place_of-requires : goal.place_of-requires
unfolding with_belonging
place_of-requires c = search rules

pub put_element-head-requires : goal.put_element-head-requires
unfolding with_belonging
put_element-head-requires c = search rules

pub put_belonging-requires : goal.put_belonging-requires
unfolding with_belonging
put_belonging-requires c = search rules

pub returns : goal.returns
unfolding with_belonging
returns c = puts_as _ (rw c.place_of.ensures) (then c.put_element-head.ensures c.put_belonging.ensures)
