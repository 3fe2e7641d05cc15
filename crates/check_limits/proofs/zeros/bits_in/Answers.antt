use Rattle.check_limits.proofs.BitLaws.{bits_none, bits_more}
use Rattle.check_limits.proofs.zeros.bits_in.Goals as goal

pub loop-w-init : goal.loop-w-init
loop-w-init c = bits_none _

pub loop-w-preserved : goal.loop-w-preserved
loop-w-preserved c = bits_more _ _ _ c.loop-w.invariant
