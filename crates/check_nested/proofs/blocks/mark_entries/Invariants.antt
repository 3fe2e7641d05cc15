use mathlib.Core.Path.{◌≡◌}
use Rattle.base_words.specs.Each.{tab}
use Rattle.base_table.specs.Table.{entry_at}
use Rattle.check_tally.specs.Tally.{tally}
use Rattle.check_nested.proofs.blocks.mark_entries.Given as goal

abbrev pub invariant-loop-j : goal.invariant-loop-j
invariant-loop-j l = l.s ≡ tally l.initial.s (tab (entry_at l.el) l.j)
