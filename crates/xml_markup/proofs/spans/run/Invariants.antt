use mathlib.Core.Path.{◌≡◌}
use Prim.Native.Nat.{◌≤◌}
use lib.ListN.{length, drop}
use Rattle.base_bytes.specs.Bytes.{past}
use Rattle.xml_markup.specs.Spans.{is_of, run}
use Rattle.xml_markup.proofs.spans.run.Given as goal

abbrev pub invariant-loop-i : goal.invariant-loop-i
invariant-loop-i l = (past (is_of l.class) (drop l.i l.text) l.i ≡ run l.class l.text l.from) × (length l.text ≤ l.from → l.i ≡ l.from)
