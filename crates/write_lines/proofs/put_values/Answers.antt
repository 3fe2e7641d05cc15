use Rattle.write_lines.proofs.LineLaws.{values_short}
use Rattle.write_buffer.proofs.OverLaws.{put_as, put_short}
use Rattle.write_lines.specs.Lines.{row, values_line}
use Rattle.write_buffer.specs.Buffers.{lesser}
use mathlib.Core.Path.{ap}
use Rattle.write_lines.proofs.put_values.Goals as goal

pub returns : goal.returns
unfolding values_line lesser
returns c = put_short (put_as _ (ap (row _ _) c.min.ensures) c.put_row.ensures) (values_short _)
