use Rattle.base_table.specs.Table.{element_at}
use Rattle.check_tally.specs.Tally.{all_marks, tally}
use Rattle.check_summary.specs.Summary.{regions}
use Rattle.base_words.specs.Each.{tab}
use mathlib.Core.Path.{◌≡◌}
use Rattle.check_lowest.proofs.mark_elements.Given as goal

abbrev pub invariant-loop-e : goal.invariant-loop-e
invariant-loop-e l = l.s ≡ tally l.initial.s (all_marks regions (tab (element_at l.t l.p) l.e))
