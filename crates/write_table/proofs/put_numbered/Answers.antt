use Rattle.write_buffer.proofs.OverLaws.{after, put_as}
use Rattle.write_table.proofs.put_numbered.Goals as goal

pub returns : goal.returns
returns c = put_as _ (rw c.word.ensures) (after c.put_number-number.ensures (after c.put_byte-comma.ensures c.put_contents.ensures))
