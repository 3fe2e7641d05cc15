use Rattle.std.proofs.Common.{◌≡◌, true}
use Rattle.base_words.specs.Iter.{iter}
use Rattle.meaning.specs.Assignments.{Assigned, assign_one}
use Rattle.step_expressions.proofs.assignments.assign.Given as goal

abbrev pub invariant-loop-j : goal.invariant-loop-j
invariant-loop-j l = ◌≡◌ {A = Assigned} (record { defined = l.defined; instance = l.h }) (iter (assign_one l.el) (record { defined = true; instance = l.initial.h }) l.j)
