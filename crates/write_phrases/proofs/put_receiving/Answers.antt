use Rattle.write_buffer.proofs.OverLaws.{after}
use Rattle.write_shown.specs.Shown.{shown_receiving}
use Rattle.write_phrases.proofs.put_receiving.Goals as goal

pub returns : goal.returns
unfolding shown_receiving
returns c = after c.put_byte-opener.ensures (after c.put_event-end.ensures c.put_byte.ensures)
