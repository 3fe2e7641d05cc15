use Rattle.step_queues.specs.Changes.{removed}
use Rattle.step_queues.proofs.remove.Goals as goal

pub returns : goal.returns
unfolding removed
returns c = rw (c.put.ensures, c.store.ensures, c.close_up.ensures, c.empty_tuple.ensures, c.less_one-n.ensures, c.queued_in.ensures)
