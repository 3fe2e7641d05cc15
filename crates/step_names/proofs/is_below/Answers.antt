use Rattle.step_names.specs.Parts.{below_for}
use Rattle.step_names.proofs.is_below.Goals as goal

pub returns : goal.returns
unfolding below_for
returns c = rw (c.limit_of.ensures, c.made_count.ensures, c.instances_in-s.ensures, c.move_for-v.ensures, c.pool_of-p.ensures) at c.is_below_limit.ensures
