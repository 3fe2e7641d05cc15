use Rattle.log_write.specs.Times.{day_text, day_of, moment_text}
use Rattle.write_buffer.proofs.OverLaws.{after, put_as}
use mathlib.Core.Path.{ap}
use Rattle.log_write.proofs.times.put_moment.Goals as goal

pub returns : goal.returns
unfolding moment_text
returns c = after (after (after (put_as (day_text (day_of _)) (ap day_text c.day_of.ensures) c.put_day-day.ensures) c.put_clock-clock.ensures) c.put_millis-millis.ensures) c.put_bytes.ensures
