use Rattle.write_buffer.proofs.OverLaws.{after, put_as}
use Rattle.write_shown.specs.Shown.{shown_assignment}
use Rattle.write_shown.proofs.put_assignment.Goals as goal

pub returns : goal.returns
unfolding shown_assignment
returns c = put_as _ (rw (c.word.ensures, c.tail.ensures)) (after c.put_field-field.ensures (after c.put_bytes-sign.ensures c.put_expression.ensures))
