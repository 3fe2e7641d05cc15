use Rattle.log_write.specs.Times.{clock_text}
use Rattle.write_buffer.proofs.OverLaws.{after}
use Rattle.log_write.proofs.times.put_clock.Goals as goal

pub returns : goal.returns
unfolding clock_text
returns c = after (after c.put_field-hours.ensures c.put_field-minutes.ensures) c.put_field.ensures
