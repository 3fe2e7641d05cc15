use Rattle.log_write.specs.Times.{day_text}
use Rattle.write_buffer.proofs.OverLaws.{after}
use Rattle.log_write.proofs.times.put_day.Goals as goal

pub returns : goal.returns
unfolding day_text
returns c = after (after (after c.put_two-century.ensures c.put_two-year.ensures) c.put_field-month.ensures) c.put_field.ensures
