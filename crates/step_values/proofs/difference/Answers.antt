use Rattle.step_values.proofs.ValueLaws.{difference_checked}
use Rattle.step_values.proofs.difference.Goals as goal

pub returns : goal.returns
returns c = rw (c.in_ok-a.was, c.in_ok-b.was) (difference_checked _ _ _ c.checked_sub.ensures)
