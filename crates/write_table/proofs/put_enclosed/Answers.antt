use Rattle.write_buffer.proofs.OverLaws.{after}
use Rattle.write_table.proofs.put_enclosed.Goals as goal

pub returns : goal.returns
returns c = after c.put_byte-opener.ensures (after c.put_numbered-end.ensures c.put_byte.ensures)
