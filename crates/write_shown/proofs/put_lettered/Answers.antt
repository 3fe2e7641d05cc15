use Rattle.write_buffer.proofs.OverLaws.{after}
use Rattle.write_shown.proofs.put_lettered.Goals as goal

pub returns : goal.returns
returns c = after c.put_byte-behind.ensures c.put_number.ensures
