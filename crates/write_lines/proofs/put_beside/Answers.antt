use mathlib.Core.Path.{ap}
use Rattle.write_buffer.proofs.OverLaws.{put_as}
use Rattle.write_buffer.specs.Buffers.{lesser}
use Rattle.write_decimals.specs.Decimals.{shown}
use Rattle.write_lines.proofs.put_beside.Goals as goal

pub returns : goal.returns
unfolding lesser
returns c = put_as _ (ap shown c.min.ensures) c.put_number.ensures
