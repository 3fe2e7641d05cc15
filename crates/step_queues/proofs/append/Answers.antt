use Rattle.step_queues.specs.Changes.{extended}
use Rattle.step_queues.proofs.append.Goals as goal

pub returns : goal.returns
unfolding extended
returns c = rw (c.put.ensures, c.store.ensures, c.one_more-next.ensures, c.queued_in-n.ensures)
