use Prim.Native.Nat.{◌-◌}
use Rattle.xml_markup.specs.Ahead.{key_of, key_at, Between}
use Rattle.xml_markup.proofs.shelf.place_of.Given as goal

abbrev pub invariant-loop-b : goal.invariant-loop-b
invariant-loop-b l = Between (key_at l.text) l.v l.last (key_of l.name) l.b.low l.b.high

abbrev pub decreases-loop-b : goal.decreases-loop-b
decreases-loop-b l = l.b.high - l.b.low
