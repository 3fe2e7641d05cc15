use Rattle.base_words.specs.Each.{joined}
use Rattle.base_words.specs.Words.{at}
use Rattle.draw_map.specs.Map.{Puts, next}
use Rattle.draw_chart.proofs.lines.put_numbers.Given as goal

abbrev pub invariant-loop-x : goal.invariant-loop-x
invariant-loop-x l = Puts (joined (λ i. next (at l.xs i)) l.x-index) l.from l.initial.out l.end l.out
