use Rattle.draw_chart.proofs.PutLaws.{puts_as}
use Rattle.draw_map.specs.Map.{element_line}
use borrow.Author.Rules.{rules}
use Rattle.draw_chart.proofs.pools.put_element.Goals as goal

pub next_number-requires : goal.next_number-requires
unfolding element_line
next_number-requires c = search rules

pub put_line-requires : goal.put_line-requires
unfolding element_line
put_line-requires c = search rules

pub returns : goal.returns
unfolding element_line
returns c = puts_as _ (rw c.next_number.ensures) c.put_line.ensures
