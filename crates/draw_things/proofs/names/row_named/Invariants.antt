use mathlib.Core.Path.{◌≡◌}
use lib.ListN.{drop}
use Rattle.draw_things.specs.Names.{rows, row_from, row_named}
use Rattle.draw_things.proofs.names.row_named.Given as goal

abbrev pub invariant-loop-i : goal.invariant-loop-i
invariant-loop-i l = row_from l.name (drop l.i rows) l.i ≡ row_named l.name
