use Rattle.draw_kinds.specs.Roles.{shape_of}
use mathlib.Core.Path.{◌≡◌}
use Rattle.draw_kinds.proofs.shape_of.Given as goal

abbrev pub invariant-loop-j : goal.invariant-loop-j
invariant-loop-j l = l.d ≡ shape_of l.w l.j l.k
