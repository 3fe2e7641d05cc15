use mathlib.Core.Path.{◌≡◌}
use Rattle.base_words.specs.Iter.{iter}
use Rattle.text_rewrite.specs.InTable.{treated_in}
use Rattle.text_rewrite.proofs.rewrite_pool.Given as goal

abbrev pub invariant-loop-k : goal.invariant-loop-k
invariant-loop-k l = l.t ≡ iter (λ i. treated_in l.p) l.initial.t l._k
