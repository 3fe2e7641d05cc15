use Rattle.write_buffer.proofs.OverLaws.{after, put_as}
use Rattle.write_phrases.proofs.put_event.Goals as goal

pub returns : goal.returns
returns c = put_as _ (rw c.edge_at.ensures) (after c.put_message-message.ensures (after c.put_byte-comma.ensures c.put_number.ensures))
