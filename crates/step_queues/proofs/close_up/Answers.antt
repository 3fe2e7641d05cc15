use Rattle.step_queues.proofs.ShiftLaws.{closed_last}
use Rattle.step_queues.specs.Changes.{closed_up}
use Rattle.step_queues.proofs.close_up.Goals as goal

pub returns-then-k-n : goal.returns-then-k-n
unfolding closed_up
returns-then-k-n c = rw (c.less_one-n.ensures, c.queued_in.ensures) at c.shift.ensures

pub returns-else-k-n : goal.returns-else-k-n
unfolding closed_up
returns-else-k-n c = closed_last _ _ _ _ _ c.queued_in.ensures c.less_one-n.ensures c.if-k-n.false
