use Rattle.step_names.specs.Parts.{instance_for}
use Rattle.step_names.proofs.instance_for.Goals as goal

pub returns : goal.returns
unfolding instance_for
returns c = rw (c.instances_in-s.ensures, c.move_for-v.ensures, c.pool_of-p.ensures) at c.copy_before.ensures
