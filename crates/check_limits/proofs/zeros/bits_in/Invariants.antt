use mathlib.Core.Path.{◌≡◌}
use Rattle.base_words.specs.Words.{at}
use Rattle.check_limits.specs.Bits.{bits_of}
use Rattle.check_limits.proofs.zeros.bits_in.Given as goal

abbrev pub invariant-loop-w : goal.invariant-loop-w
invariant-loop-w l = l.bits ≡ bits_of (at l.x) l.w-index
