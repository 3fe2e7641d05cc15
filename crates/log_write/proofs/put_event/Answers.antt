use Rattle.log_write.specs.Xes.{event_opening, event_text}
use Rattle.write_buffer.proofs.OverLaws.{after}
use Rattle.log_write.proofs.put_event.Goals as goal

pub returns : goal.returns
unfolding event_text event_opening
returns c = after (after c.put_bytes-opening.ensures c.put_step-line.ensures) c.put_closing.ensures
