use Rattle.log_write.specs.Times.{millis_text}
use Rattle.write_buffer.proofs.OverLaws.{after}
use Rattle.log_write.proofs.times.put_millis.Goals as goal

pub returns : goal.returns
unfolding millis_text
returns c = after (after c.put_byte-point.ensures c.put_digit-hundreds.ensures) c.put_two.ensures
