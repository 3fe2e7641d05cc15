use mathlib.Core.Path.{◌≡◌}
use lib.ListN.{drop}
use Rattle.xml_markup.specs.Spans.{local_from}
use Rattle.xml_markup.proofs.spans.local_from.Given as goal

abbrev pub invariant-loop-i : goal.invariant-loop-i
invariant-loop-i l = local_from (drop l.i l.name) l.i l.from ≡ local_from l.name 0 0
