use Rattle.write_buffer.proofs.OverLaws.{after}
use Rattle.write_lines.proofs.put_signed.Goals as goal

pub returns : goal.returns
returns c = after c.put_byte-first.ensures c.put_message.ensures
