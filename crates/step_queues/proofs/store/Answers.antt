use Rattle.step_queues.specs.Changes.{stored}
use Rattle.step_queues.proofs.store.Goals as goal

pub returns : goal.returns
unfolding stored
returns c = rw (c.put_values.ensures, c.put.ensures, c.slot_place.ensures)
