use Rattle.write_buffer.proofs.OverLaws.{after, put_as}
use Rattle.write_shown.specs.Shown.{shown_pair}
use Rattle.write_shown.proofs.put_pair.Goals as goal

pub returns : goal.returns
unfolding shown_pair
returns c = put_as _ (rw (c.tail.ensures, c.tail-2.ensures)) (after c.put_operand-left.ensures (after c.put_byte-middle.ensures c.put_operand.ensures))
