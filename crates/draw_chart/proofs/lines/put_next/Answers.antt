use Rattle.draw_chart.proofs.PutLaws.{puts}
use Rattle.draw_chart.proofs.PutLaws.{then}
use Rattle.draw_map.specs.Map.{next}
use borrow.Author.Rules.{rules}
use Rattle.draw_chart.proofs.lines.put_next.Goals as goal

pub put_byte-blank-requires : goal.put_byte-blank-requires
unfolding next
put_byte-blank-requires c = search rules

pub put_number-requires : goal.put_number-requires
unfolding next
put_number-requires c = search rules

pub returns : goal.returns
unfolding next
returns c = then (puts c.put_byte-blank.ensures) (puts c.put_number.ensures)
