use Rattle.draw_kinds.specs.Roles.{roles, kind_settled, is_unsettled}
use Rattle.base_words.specs.Iter.{iter}
use Rattle.base_words.specs.Seek.{seek}
use mathlib.Core.Path.{◌≡◌}
use Rattle.draw_kinds.proofs.settle_kinds.Given as goal

abbrev pub invariant-loop-k : goal.invariant-loop-k
invariant-loop-k l = (l.w ≡ iter (kind_settled l.n) l.initial.w l.k) × (seek (is_unsettled (roles l.n l.initial.w)) l.k ≡ l.k)
