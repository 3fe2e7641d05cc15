use Rattle.write_buffer.proofs.OverLaws.{put_nothing, bytes_more, bytes_done}
use Rattle.write_buffer.proofs.put_bytes.Goals as goal

pub loop-b-init : goal.loop-b-init
loop-b-init c = put_nothing _ _

pub loop-b-preserved : goal.loop-b-preserved
loop-b-preserved c = bytes_more _ _ c.loop-b-test.true c.loop-b.invariant c.put_byte-to.ensures

pub returns : goal.returns
returns c = bytes_done _ _ c.loop-b-test.false c.loop-b.auto.b-index-end c.loop-b.invariant
