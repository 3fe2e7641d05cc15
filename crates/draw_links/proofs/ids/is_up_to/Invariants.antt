use lib.ListN.{drop}
use mathlib.Core.Path.{◌≡◌}
use Rattle.draw_links.specs.Notes.{is_up_to}
use Rattle.draw_links.proofs.ids.is_up_to.Given as goal

abbrev pub invariant-loop-i : goal.invariant-loop-i
invariant-loop-i l = is_up_to l.q (drop l.i l.v) (drop l.i l.s) ≡ is_up_to l.q l.v l.s
