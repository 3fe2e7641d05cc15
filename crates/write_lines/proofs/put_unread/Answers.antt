use Rattle.write_buffer.proofs.OverLaws.{after}
use Rattle.write_lines.specs.Lines.{unread_line}
use Rattle.write_lines.proofs.put_unread.Goals as goal

pub returns : goal.returns
unfolding unread_line
returns c = after (after (after (after c.put_bytes-word.ensures c.put_number-told.ensures) c.put_byte-blank.ensures) c.put_beside-all.ensures) c.put_byte.ensures
