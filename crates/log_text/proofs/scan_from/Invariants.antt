use mathlib.Core.Path.{◌≡◌}
use Prim.Native.Nat.{◌-◌}
use lib.ListN.{length}
use Rattle.log_text.specs.Logs.{scan_from}
use Rattle.log_text.proofs.scan_from.Given as goal

abbrev pub invariant-loop-d : goal.invariant-loop-d
invariant-loop-d l = scan_from l.text l.d ≡ scan_from l.text l.initial.d

abbrev pub decreases-loop-d : goal.decreases-loop-d
decreases-loop-d l = length l.text - l.d.at
