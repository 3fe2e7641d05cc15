use Rattle.state_check.proofs.ExcessLaws.{counts_upto}
use Rattle.state_check.proofs.instances.counts_fit.Goals as goal

pub returns : goal.returns
returns c = counts_upto _ _ _ _ c.min.ensures c.excess_below.ensures
