use Rattle.log_write.specs.Times.{field}
use Rattle.write_buffer.proofs.OverLaws.{after}
use Rattle.log_write.proofs.times.put_field.Goals as goal

pub returns : goal.returns
unfolding field
returns c = after c.put_byte-first.ensures c.put_two.ensures
