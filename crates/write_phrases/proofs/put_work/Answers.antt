use Rattle.write_buffer.proofs.OverLaws.{after, put_as}
use Rattle.write_phrases.proofs.put_work.Goals as goal

pub returns : goal.returns
returns c = put_as _ (rw c.condition_at.ensures) (after c.put_condition-guard.ensures (after c.put_byte-comma.ensures c.put_assignments.ensures))
