use Rattle.log_repair.specs.Repair.{end_tag}
use Rattle.write_buffer.proofs.OverLaws.{after, put_as, put_short}
use Rattle.xml_markup.specs.Spans.{bytes_of}
use native.Mathlib.Omega.{arith}
use mathlib.Core.Path.{◌∙◌, ap}
use Rattle.log_repair.proofs.put_end_tag.Goals as goal

pub returns : goal.returns
unfolding end_tag
returns c = put_short (after (after c.put_bytes-opened.ensures (put_as _ (c.bytes_of.ensures ∙ ap (bytes_of _) c.name_at.ensures) c.put_bytes-named.ensures)) c.put_bytes.ensures) (omega arith)
