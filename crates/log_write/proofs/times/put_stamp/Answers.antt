use Rattle.log_write.specs.Times.{date_opening}
use Rattle.log_write.proofs.StampLaws.{stamp_none, stamp_late, stamp_dated}
use Rattle.write_buffer.proofs.OverLaws.{after}
use Rattle.log_write.proofs.times.put_stamp.Goals as goal

pub returns-then-moment-eq0 : goal.returns-then-moment-eq0
returns-then-moment-eq0 c = stamp_none _ c.if-moment-eq0.true

pub returns-then-moment-lt-END : goal.returns-then-moment-lt-END
unfolding date_opening
returns-then-moment-lt-END c = stamp_dated _ c.if-moment-eq0.false c.if-moment-lt-END.true (after (after c.put_bytes-opening.ensures c.put_moment-written.ensures) c.put_bytes.ensures)

pub returns : goal.returns
returns c = stamp_late _ c.if-moment-eq0.false c.if-moment-lt-END.false
