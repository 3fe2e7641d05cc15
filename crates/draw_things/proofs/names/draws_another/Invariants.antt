use mathlib.Core.Path.{◌≡◌}
use Prim.Native.Nat.{◌-◌}
use lib.ListN.{length, drop}
use Rattle.draw_things.specs.Names.{differs_from, draws_another}
use Rattle.draw_things.proofs.names.draws_another.Given as goal

abbrev pub invariant-loop-i : goal.invariant-loop-i
invariant-loop-i l = differs_from l.text l.c (drop l.i l.text) l.i ≡ draws_another l.text l.p

abbrev pub decreases-loop-i : goal.decreases-loop-i
decreases-loop-i l = length l.text - l.i
