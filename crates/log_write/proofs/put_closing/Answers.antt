use Rattle.log_write.specs.Xes.{event_closing}
use Rattle.write_buffer.proofs.OverLaws.{after}
use Rattle.log_write.proofs.put_closing.Goals as goal

pub returns : goal.returns
unfolding event_closing
returns c = after (after c.put_bytes-name.ensures c.put_stamp-stamp.ensures) c.put_bytes.ensures
