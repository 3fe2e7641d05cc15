use mathlib.Core.Path.{◌≡◌}
use Prim.Native.Nat.{◌≤◌}
use lib.ListN.{length, drop}
use Rattle.xml_markup.specs.Markup.{text_from}
use Rattle.xml_markup.proofs.scanning.text_from.Given as goal

abbrev pub invariant-loop-i : goal.invariant-loop-i
invariant-loop-i l = (text_from l.text (drop l.i l.text) l.i ≡ text_from l.text (drop l.p l.text) l.p) × (length l.text ≤ l.p → l.i ≡ l.p)
