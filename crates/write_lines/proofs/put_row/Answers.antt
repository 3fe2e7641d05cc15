use Rattle.write_lines.proofs.LineLaws.{row_start, row_more, row_done}
use Rattle.write_lines.proofs.put_row.Goals as goal

pub loop-j-init : goal.loop-j-init
loop-j-init c = row_start _ _ _ _

pub loop-j-preserved : goal.loop-j-preserved
loop-j-preserved c = row_more _ _ _ _ c.word-x.ensures c.loop-j.invariant c.put_marked-end.ensures

pub returns : goal.returns
returns c = row_done _ _ _ _ c.loop-j-test.false c.loop-j.auto.j-end c.loop-j.invariant
