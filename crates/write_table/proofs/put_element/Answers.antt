use Rattle.write_buffer.proofs.OverLaws.{after, put_as}
use Rattle.write_shown.specs.Shown.{shown_element}
use Rattle.write_table.proofs.put_element.Goals as goal

pub returns : goal.returns
unfolding shown_element
returns c = put_as _ (rw c.kind_in.ensures) (after c.put_keyword-keyword.ensures (after c.put_parts-end.ensures c.put_byte.ensures))
