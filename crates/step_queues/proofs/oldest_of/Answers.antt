use Rattle.step_queues.specs.Changes.{oldest}
use Rattle.step_queues.proofs.oldest_of.Goals as goal

pub returns : goal.returns
unfolding oldest
returns c = rw c.queued_in.ensures at c.oldest_below.ensures
