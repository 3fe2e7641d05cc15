use Rattle.state_check.proofs.MarkLaws.{counts_active, counts_both, counts_none}
use borrow.Author.Rules.{rules}
use Rattle.state_check.proofs.marks.mark_counts.Goals as goal

ruleset L = (rules)

pub returns-then-mode_in-le-A : goal.returns-then-mode_in-le-A
returns-then-mode_in-le-A c = counts_none _ _ _ c.mode_in.ensures c.if-mode_in-le-A.true

pub returns-then-is_silent : goal.returns-then-is_silent
returns-then-is_silent c = counts_active _ _ _ c.mode_in.ensures c.if-mode_in-le-A.false _ c.task_in.ensures _ c.put_active.ensures _ c.is_silent.ensures c.if-is_silent.true

pub returns : goal.returns
returns c = counts_both _ _ _ c.mode_in.ensures c.if-mode_in-le-A.false _ c.task_in.ensures _ c.put_active.ensures _ c.is_silent.ensures c.if-is_silent.false _ c.task_in-2.ensures _ c.put_ready.ensures
