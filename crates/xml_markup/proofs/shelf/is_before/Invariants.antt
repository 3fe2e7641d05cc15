use Rattle.xml_markup.proofs.ShelfLaws.{Alike}
use Rattle.xml_markup.proofs.shelf.is_before.Given as goal

abbrev pub invariant-loop-i : goal.invariant-loop-i
invariant-loop-i l = Alike l.a l.b l.i
