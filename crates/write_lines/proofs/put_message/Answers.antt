use Rattle.write_buffer.proofs.OverLaws.{after}
use Rattle.write_lines.specs.Lines.{message_line}
use Rattle.write_lines.proofs.put_message.Goals as goal

pub returns : goal.returns
unfolding message_line
returns c = after (after c.put_number-name.ensures c.put_byte-colon.ensures) c.put_values.ensures
