use Rattle.draw_chart.proofs.PutLaws.{then}
use Rattle.draw_map.specs.Map.{inside}
use borrow.Author.Rules.{rules}
use Rattle.draw_chart.proofs.pools.put_inside.Goals as goal

pub put_all_of-elements-requires : goal.put_all_of-elements-requires
unfolding inside
put_all_of-elements-requires c = search rules

pub put_all_of-ends-requires : goal.put_all_of-ends-requires
unfolding inside
put_all_of-ends-requires c = search rules

pub put_all_of-requires : goal.put_all_of-requires
unfolding inside
put_all_of-requires c = search rules

pub returns : goal.returns
unfolding inside
returns c = then c.put_all_of-elements.ensures (then c.put_all_of-ends.ensures c.put_all_of.ensures)
