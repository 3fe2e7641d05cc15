use borrow.Author.Rules.{rules}
use Rattle.state_figures.proofs.CountLaws.{record_by}
use Rattle.state_figures.proofs.record_of.Goals as goal

ruleset L = (rules)

pub returns : goal.returns
returns c = record_by _ _ _ _ _ c.made_count-made.ensures c.finished_count-done.ensures (rw (← c.wide.ensures) c.less.ensures)
