use mathlib.Core.Path.{◌≡◌}
use Rattle.base_words.specs.Iter.{iter}
use Rattle.text_rewrite.specs.InTable.{pool_in}
use Rattle.text_rewrite.proofs.rewrite.Given as goal

abbrev pub invariant-loop-p : goal.invariant-loop-p
invariant-loop-p l = l.t ≡ iter pool_in l.initial.t l.p
