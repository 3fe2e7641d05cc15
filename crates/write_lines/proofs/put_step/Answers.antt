use Rattle.write_buffer.proofs.OverLaws.{after}
use Rattle.write_lines.specs.Lines.{step_line}
use Rattle.write_lines.proofs.put_step.Goals as goal

pub returns : goal.returns
unfolding step_line
returns c = after (after c.put_place-place.ensures c.put_byte-blank.ensures) c.put_traffic.ensures
