use mathlib.Core.Path.{◌≡◌}
use Prim.Native.Nat.{◌-◌}
use lib.ListN.{length, drop}
use Rattle.xml_markup.specs.Markup.{scan_from, scan}
use Rattle.xml_markup.specs.Ahead.{ReadTo}
use Rattle.xml_markup.proofs.scanning.scan.Given as goal

abbrev pub invariant-loop-i : goal.invariant-loop-i
invariant-loop-i l = (scan_from l.text l.p l.c (drop l.i l.text) l.i ≡ scan l.text l.p) × ReadTo l.text l.p l.c l.i

abbrev pub decreases-loop-i : goal.decreases-loop-i
decreases-loop-i l = length l.text - l.i
