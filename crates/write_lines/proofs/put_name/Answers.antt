use Rattle.write_buffer.proofs.OverLaws.{after}
use Rattle.write_lines.specs.Lines.{name_line}
use Rattle.write_lines.proofs.put_name.Goals as goal

pub returns : goal.returns
unfolding name_line
returns c = after (after c.put_place-place.ensures c.put_byte-blank.ensures) c.put_tuple.ensures
