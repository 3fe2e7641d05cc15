use Rattle.log_write.specs.Xes.{event_opening, event_text}
use Rattle.write_buffer.proofs.OverLaws.{after}
use Rattle.log_pieces.proofs.put_post.Goals as goal

pub returns : goal.returns
unfolding event_text event_opening
returns c = after (after c.put_bytes-opening.ensures c.put_post_line-line.ensures) c.put_closing.ensures
