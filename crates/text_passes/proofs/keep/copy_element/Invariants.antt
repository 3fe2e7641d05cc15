use mathlib.Core.Path.{◌≡◌}
use Rattle.base_words.specs.Words.{at}
use Rattle.base_words.specs.Writes.{writes}
use Rattle.text_passes.proofs.keep.copy_element.Given as goal

abbrev pub invariant-loop-j : goal.invariant-loop-j
invariant-loop-j l = l.t ≡ writes (λ k. at l.x k) l.initial.t l.place l.j
