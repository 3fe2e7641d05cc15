use Rattle.std.proofs.Common.{◌≡◌, ◌+◌}
use Rattle.base_words.specs.Words.{at}
use Rattle.base_words.specs.Writes.{writes}
use Rattle.step_effects.proofs.copies.move_inside.Given as goal

abbrev pub invariant-loop-k : goal.invariant-loop-k
invariant-loop-k l = l.z ≡ writes (λ j. at l.s (l.from + j)) l.initial.z l.to l.k
