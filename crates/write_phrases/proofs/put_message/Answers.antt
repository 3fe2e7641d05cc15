use Rattle.write_buffer.proofs.OverLaws.{after, put_as}
use Rattle.write_shown.specs.Shown.{shown_message}
use Rattle.write_phrases.proofs.put_message.Goals as goal

pub returns : goal.returns
unfolding shown_message
returns c = put_as _ (rw c.message_name.ensures) (after c.put_number-name.ensures (after c.put_byte-colon.ensures c.put_tuple.ensures))
