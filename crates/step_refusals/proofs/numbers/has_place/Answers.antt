use Rattle.step_refusals.proofs.NumberLaws.{place_by}
use Rattle.step_refusals.proofs.numbers.has_place.Goals as goal

pub returns : goal.returns
returns c = place_by _ _ _ c.queued_in.ensures
