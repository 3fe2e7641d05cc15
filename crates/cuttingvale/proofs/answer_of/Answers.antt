use Rattle.cuttingvale.specs.Boundary.{answer_to_c}
use Rattle.cuttingvale.proofs.answer_of.Goals as goal

pub returns : goal.returns
unfolding answer_to_c
returns c = rw c.traffic_of.ensures
