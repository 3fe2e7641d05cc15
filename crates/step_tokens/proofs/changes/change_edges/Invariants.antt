use Rattle.std.proofs.Common.{◌≡◌}
use Rattle.base_words.specs.Iter.{iter}
use Rattle.step_tokens.specs.Edges.{change_one}
use Rattle.step_tokens.proofs.changes.change_edges.Given as goal

abbrev pub invariant-loop-j : goal.invariant-loop-j
invariant-loop-j l = l.h ≡ iter (change_one l.el l.list l.way l.f) l.initial.h l.j
