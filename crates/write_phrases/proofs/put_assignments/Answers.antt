use Rattle.write_buffer.proofs.OverLaws.{after}
use Rattle.write_shown.specs.Shown.{shown_assignments}
use Rattle.write_phrases.proofs.put_assignments.Goals as goal

pub returns : goal.returns
unfolding shown_assignments
returns c = after c.put_byte-opener.ensures (after c.put_assigned-end.ensures c.put_byte.ensures)
