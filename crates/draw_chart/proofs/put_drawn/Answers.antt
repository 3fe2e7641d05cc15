use Rattle.draw_chart.proofs.PutLaws.{puts}
use Rattle.draw_chart.proofs.PutLaws.{then}
use Rattle.draw_map.specs.Map.{map_of}
use borrow.Author.Rules.{rules}
use Rattle.draw_chart.proofs.put_drawn.Goals as goal

pub put_every-pools-requires : goal.put_every-pools-requires
unfolding map_of
put_every-pools-requires c = search rules

pub put_every-outsiders-requires : goal.put_every-outsiders-requires
unfolding map_of
put_every-outsiders-requires c = search rules

pub put_every-messages-requires : goal.put_every-messages-requires
unfolding map_of
put_every-messages-requires c = search rules

pub put_bytes-requires : goal.put_bytes-requires
unfolding map_of
put_bytes-requires c = search rules

pub returns : goal.returns
unfolding map_of
returns c = then c.put_every-pools.ensures (then c.put_every-outsiders.ensures (then c.put_every-messages.ensures (puts c.put_bytes.ensures)))
