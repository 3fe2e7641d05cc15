use Prim.Native.Nat.{◌-◌}
use lib.ListN.{length}
use Rattle.xml_markup.specs.Ahead.{Sure}
use Rattle.xml_markup.proofs.ahead.read_new.Given as goal

abbrev pub invariant-loop-last : goal.invariant-loop-last
invariant-loop-last l = Sure l.text l.start l.initial.here l.initial.last l.here l.last

abbrev pub decreases-loop-last : goal.decreases-loop-last
decreases-loop-last l = length l.text - l.last
