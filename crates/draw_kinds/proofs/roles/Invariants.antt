use Rattle.draw_kinds.specs.Roles.{kind_settled}
use Rattle.base_words.specs.Iter.{iter}
use mathlib.Core.Path.{◌≡◌}
use Rattle.draw_kinds.proofs.roles.Given as goal

abbrev pub invariant-loop-k : goal.invariant-loop-k
invariant-loop-k l = l.w ≡ iter (kind_settled l.n) l.initial.w l.k
