use Rattle.write_buffer.proofs.OverLaws.{after}
use Rattle.write_shown.specs.Shown.{shown_tuple}
use Rattle.write_phrases.proofs.put_tuple.Goals as goal

pub returns : goal.returns
unfolding shown_tuple
returns c = after c.put_byte-opener.ensures (after c.put_items-end.ensures c.put_byte.ensures)
