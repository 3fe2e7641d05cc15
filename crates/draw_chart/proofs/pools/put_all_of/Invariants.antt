use Rattle.base_words.specs.Each.{joined}
use Rattle.draw_map.specs.Map.{Puts, lines_of}
use Rattle.draw_chart.proofs.pools.put_all_of.Given as goal

abbrev pub invariant-loop-k : goal.invariant-loop-k
invariant-loop-k l = Puts (joined (lines_of l.class l.table l.w l.n l.i l.p) l.k) l.from l.initial.out l.end l.out
