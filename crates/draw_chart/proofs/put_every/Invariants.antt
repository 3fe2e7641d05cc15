use Rattle.base_words.specs.Each.{joined}
use Rattle.draw_map.specs.Map.{Puts, part_of}
use Rattle.draw_chart.proofs.put_every.Given as goal

abbrev pub invariant-loop-k : goal.invariant-loop-k
invariant-loop-k l = Puts (joined (part_of l.class l.owned l.text l.table l.w l.n) l.k) l.from l.initial.out l.end l.out
