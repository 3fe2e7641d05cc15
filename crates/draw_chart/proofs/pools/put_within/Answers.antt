use Rattle.draw_chart.proofs.PutLaws.{puts_as}
use Rattle.draw_map.specs.Map.{within_line}
use borrow.Author.Rules.{rules}
use Rattle.draw_chart.proofs.pools.put_within.Goals as goal

pub element_at-requires : goal.element_at-requires
unfolding within_line
element_at-requires c = search rules

pub edge_at-edge-requires : goal.edge_at-edge-requires
unfolding within_line
edge_at-edge-requires c = search rules

pub next_number-requires : goal.next_number-requires
unfolding within_line
next_number-requires c = search rules

pub put_line-requires : goal.put_line-requires
unfolding within_line
put_line-requires c = search rules

pub returns : goal.returns
unfolding within_line
returns c = puts_as _ (rw (c.next_number.ensures, c.edge_at-edge.ensures, c.element_at.ensures)) c.put_line.ensures
