use Rattle.std.proofs.Common.{◌≡◌, ◌+◌}
use Rattle.base_words.specs.Words.{at}
use Rattle.base_words.specs.Writes.{writes}
use Rattle.base_state.specs.Places.{slot_words}
use Rattle.step_queues.proofs.shift.Given as goal

abbrev pub invariant-loop-j : goal.invariant-loop-j
invariant-loop-j l = l.q ≡ writes (λ d. at l.initial.q (l.i + d + slot_words)) l.initial.q l.i l.j
