use borrow.Author.Rules.{rules}
use Rattle.state_figures.proofs.RecordLaws.{after_done, after_going}
use Rattle.state_figures.proofs.record_after.Goals as goal

ruleset L = (rules)

pub returns-then-done : goal.returns-then-done
returns-then-done c = after_done _ _ _ _ _ c.if-done.true c.less_one-left.ensures (rw c.wide.ensures at c.less.ensures)

pub returns : goal.returns
returns c = after_going _ _ _ _ c.if-done.false (rw c.wide-2.ensures at c.less-2.ensures)
