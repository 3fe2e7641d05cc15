use Rattle.std.proofs.Common.{◌≡◌}
use Rattle.base_words.specs.Iter.{iter}
use Rattle.meaning.specs.Templates.{bind_one}
use Rattle.step_expressions.proofs.templates.bind.Given as goal

abbrev pub invariant-loop-j : goal.invariant-loop-j
invariant-loop-j l = l.h ≡ iter (bind_one l.el l.b l.g) l.initial.h l.j
