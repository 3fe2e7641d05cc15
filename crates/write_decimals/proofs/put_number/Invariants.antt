use Rattle.write_decimals.proofs.PutLaws.{Placed}
use Rattle.write_decimals.proofs.put_number.Given as goal

abbrev pub invariant-loop-power : goal.invariant-loop-power
invariant-loop-power l = Placed l.n l.from l.initial.out l.to l.power l.out

abbrev pub decreases-loop-power : goal.decreases-loop-power
decreases-loop-power l = l.power
