use mathlib.Core.Path.{◌≡◌}
use Prim.Native.Nat.{◌-◌}
use lib.ListN.{length}
use Rattle.xml_markup.specs.Ahead.{Ahead}
use Rattle.xml_markup.proofs.ahead.read_ahead.Given as goal

abbrev pub invariant-loop-i : goal.invariant-loop-i
invariant-loop-i l = (length l.v ≡ length l.initial.v) × Ahead l.text l.start l.initial.here l.p l.v l.n l.here l.i

abbrev pub decreases-loop-i : goal.decreases-loop-i
decreases-loop-i l = length l.text - l.i
