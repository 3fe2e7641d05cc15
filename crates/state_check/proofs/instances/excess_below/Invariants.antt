use mathlib.Core.Path.{◌≡◌}
use Rattle.check_limits.specs.Bits.{bits_of}
use Rattle.state_check.specs.Places.{excess_at}
use Rattle.state_check.proofs.instances.excess_below.Given as goal

abbrev pub invariant-loop-k : goal.invariant-loop-k
invariant-loop-k l = l.bits ≡ bits_of (excess_at l.u l.h) l.k
