use Rattle.step_values.proofs.ValueLaws.{sum_checked}
use Rattle.step_values.proofs.sum.Goals as goal

pub returns : goal.returns
returns c = rw (c.in_ok-a.was, c.in_ok-b.was) (sum_checked _ _ _ c.checked_add.ensures)
