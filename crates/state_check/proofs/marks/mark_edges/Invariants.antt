use Rattle.state_check.proofs.MarkLaws.{Edged}
use mathlib.Core.Path.{◌≡◌}
use Rattle.state_check.proofs.marks.mark_edges.Given as goal

abbrev pub invariant-loop-j : goal.invariant-loop-j
invariant-loop-j l = l.w ≡ Edged l.initial.w l.el l.list l.j
