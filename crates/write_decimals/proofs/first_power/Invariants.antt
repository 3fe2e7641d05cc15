use Rattle.write_decimals.proofs.PutLaws.{Counted}
use Rattle.write_decimals.proofs.first_power.Given as goal

abbrev pub invariant-loop-left : goal.invariant-loop-left
invariant-loop-left l = Counted l.n l.left l.power

abbrev pub decreases-loop-left : goal.decreases-loop-left
decreases-loop-left l = l.left
