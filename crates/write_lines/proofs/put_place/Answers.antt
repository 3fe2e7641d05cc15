use Rattle.write_lines.proofs.LineLaws.{place_short}
use Rattle.write_buffer.proofs.OverLaws.{put_as, put_short}
use Rattle.write_lines.specs.Lines.{place_line}
use mathlib.Core.Path.{refl}
use Rattle.write_lines.proofs.put_place.Goals as goal

pub returns : goal.returns
unfolding place_line
returns c = put_short (put_as _ refl c.put_row.ensures) (place_short c.args.n)
