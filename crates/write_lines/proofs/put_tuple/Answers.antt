use Rattle.write_lines.proofs.LineLaws.{tuple_none, tuple_some, tuple_short}
use Rattle.write_buffer.proofs.OverLaws.{put_as, put_short}
use Rattle.write_lines.proofs.put_tuple.Goals as goal

pub returns-then-g-eq0 : goal.returns-then-g-eq0
returns-then-g-eq0 c = put_short (put_as _ (tuple_none _ c.if-g-eq0.true) c.put_byte.ensures) (tuple_short c.args.g)

pub returns : goal.returns
returns c = put_short (put_as _ (tuple_some _ c.if-g-eq0.false) c.put_values.ensures) (tuple_short c.args.g)
