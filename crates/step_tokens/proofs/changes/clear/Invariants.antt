use Rattle.std.proofs.Common.{◌≡◌}
use Rattle.base_words.specs.Writes.{writes}
use Rattle.step_tokens.proofs.changes.clear.Given as goal

abbrev pub invariant-loop-k : goal.invariant-loop-k
invariant-loop-k l = l.h ≡ writes (λ j. 0) l.initial.h 0 l.k
