use Rattle.meaning.specs.Step.{element_named}
use Rattle.step_names.proofs.element_for.Goals as goal

pub returns : goal.returns
unfolding element_named
returns c = rw c.pool_of-p.ensures at c.element_at.ensures
