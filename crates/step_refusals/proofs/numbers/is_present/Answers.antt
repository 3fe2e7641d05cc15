use Rattle.step_refusals.proofs.NumberLaws.{present_by}
use Rattle.step_refusals.proofs.numbers.is_present.Goals as goal

pub returns : goal.returns
returns c = present_by _ _ _ _ _ c.oldest_of.ensures c.queued_in.ensures
