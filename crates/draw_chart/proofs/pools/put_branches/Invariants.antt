use Rattle.base_words.specs.Each.{joined}
use Rattle.draw_map.specs.Map.{Puts, branch_line}
use Rattle.draw_chart.proofs.pools.put_branches.Given as goal

abbrev pub invariant-loop-j : goal.invariant-loop-j
invariant-loop-j l = Puts (joined (branch_line l.i l.e l.w l.k) l.j) l.from l.initial.out l.end l.out
