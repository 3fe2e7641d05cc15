use Rattle.state_check.proofs.CallLaws.{Marks}
use mathlib.Core.Path.{◌≡◌}
use Rattle.state_check.proofs.marks.mark_pool.Given as goal

abbrev pub invariant-loop-e : goal.invariant-loop-e
invariant-loop-e l = l.w ≡ Marks l.t l.p l.initial.w l.e
