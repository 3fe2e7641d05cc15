use Rattle.write_buffer.proofs.OverLaws.{after}
use Rattle.tool_print.specs.Judged.{unlawful_line}
use Rattle.tool_print.proofs.put_unlawful.Goals as goal

pub returns : goal.returns
unfolding unlawful_line
returns c = rw (← c.has_beside-beside.ensures) (after (after (after (after c.put_bytes-word.ensures c.put_number-told.ensures) c.put_next-place.ensures) c.put_next-all.ensures) c.put_byte.ensures)
