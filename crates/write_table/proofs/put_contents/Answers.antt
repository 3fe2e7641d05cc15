use Rattle.write_buffer.proofs.OverLaws.{after, put_as}
use Rattle.write_table.proofs.put_contents.Goals as goal

pub returns : goal.returns
returns c = put_as _ (rw c.limit_at.ensures) (after c.put_elements-elements.ensures c.put_limit.ensures)
