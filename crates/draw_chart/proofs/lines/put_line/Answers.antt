use Rattle.draw_chart.proofs.PutLaws.{puts}
use Rattle.draw_chart.proofs.PutLaws.{then}
use Rattle.draw_map.specs.Map.{line}
use borrow.Author.Rules.{rules}
use Rattle.draw_chart.proofs.lines.put_line.Goals as goal

pub put_bytes-first-requires : goal.put_bytes-first-requires
unfolding line
put_bytes-first-requires c = search rules

pub put_numbers-last-requires : goal.put_numbers-last-requires
unfolding line
put_numbers-last-requires c = search rules

pub put_byte-requires : goal.put_byte-requires
unfolding line
put_byte-requires c = search rules

pub returns : goal.returns
unfolding line
returns c = then (puts c.put_bytes-first.ensures) (then c.put_numbers-last.ensures (puts c.put_byte.ensures))
