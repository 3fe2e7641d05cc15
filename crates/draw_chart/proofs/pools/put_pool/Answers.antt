use Rattle.draw_chart.proofs.PutLaws.{puts_as}
use Rattle.draw_chart.proofs.PutLaws.{then}
use Rattle.draw_map.specs.Map.{with_inside}
use borrow.Author.Rules.{rules}
use Rattle.draw_chart.proofs.pools.put_pool.Goals as goal

pub next_number-requires : goal.next_number-requires
unfolding with_inside
next_number-requires c = search rules

pub place_of-requires : goal.place_of-requires
unfolding with_inside
place_of-requires c = search rules

pub put_line-head-requires : goal.put_line-head-requires
unfolding with_inside
put_line-head-requires c = search rules

pub put_inside-requires : goal.put_inside-requires
unfolding with_inside
put_inside-requires c = search rules

pub returns : goal.returns
unfolding with_inside
returns c = puts_as _ (rw (c.next_number.ensures, c.place_of.ensures)) (then c.put_line-head.ensures c.put_inside.ensures)
