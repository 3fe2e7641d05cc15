use Prim.Native.Nat.{◌-◌}
use mathlib.Core.Path.{◌≡◌}
use lib.ListN.{length}
use Rattle.meaning.specs.Tuples.{empty}
use Rattle.log_lines.specs.Entries.{values_in}
use Rattle.log_lines.proofs.values_from.Given as goal

abbrev pub invariant-loop-n : goal.invariant-loop-n
invariant-loop-n l = values_in (length l.line - l._n) l.line l.q l.g ≡ values_in (length l.line) l.line l.p empty
