use Rattle.log_repair.specs.Repair.{trace_end}
use Rattle.write_buffer.proofs.OverLaws.{put_nothing, put_short}
use native.Mathlib.Omega.{arith}
use Rattle.log_repair.proofs.put_trace_end.Goals as goal

pub returns-in-Open : goal.returns-in-Open
unfolding trace_end
returns-in-Open c = rw c.in-Open.is c.put_end_tag.ensures

pub returns-in-Empty : goal.returns-in-Empty
unfolding trace_end
returns-in-Empty c = rw c.in-Empty.is (put_short (put_nothing _ _) (omega arith))

pub returns-in-Fault : goal.returns-in-Fault
unfolding trace_end
returns-in-Fault c = rw c.in-Fault.is (put_short (put_nothing _ _) (omega arith))
