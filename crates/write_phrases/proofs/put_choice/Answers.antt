use Rattle.write_buffer.proofs.OverLaws.{after, put_as}
use Rattle.write_phrases.proofs.put_choice.Goals as goal

pub returns : goal.returns
returns c = put_as _ (rw (c.edge_at.ensures, c.condition_at.ensures)) (after c.put_number-exit.ensures (after c.put_byte-comma.ensures c.put_condition.ensures))
