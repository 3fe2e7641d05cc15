use Rattle.std.proofs.Common.{◌≡◌}
use Rattle.base_words.specs.Writes.{writes}
use Rattle.meaning.specs.Tuples.{value_of}
use Rattle.step_queues.proofs.put_values.Given as goal

abbrev pub invariant-loop-j : goal.invariant-loop-j
invariant-loop-j l = l.q ≡ writes (value_of l.g) l.initial.q l.i l.j
