use mathlib.Core.Path.{◌≡◌}
use Prim.Native.Nat.{◌-◌}
use lib.ListN.{length, drop}
use Rattle.xml_markup.specs.Tokens.{found_from, found}
use Rattle.xml_markup.proofs.tokens.found.Given as goal

abbrev pub invariant-loop-i : goal.invariant-loop-i
invariant-loop-i l = found_from l.text l.name l.c (drop l.i l.text) l.i ≡ found l.text l.name l.start

abbrev pub decreases-loop-i : goal.decreases-loop-i
decreases-loop-i l = length l.text - l.i
