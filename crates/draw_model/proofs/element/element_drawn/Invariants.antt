use Rattle.draw_model.specs.Drawn.{by_flow, head_of}
use Rattle.base_words.specs.Iter.{iter}
use mathlib.Core.Path.{◌≡◌}
use Rattle.draw_model.proofs.element.element_drawn.Given as goal

abbrev pub invariant-loop-j : goal.invariant-loop-j
invariant-loop-j l = l.x ≡ iter (by_flow l.text l.w l.n l.k) (head_of l.w l.n l.k) l.j
