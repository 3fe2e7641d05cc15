use mathlib.Core.Path.{refl}
use borrow.Author.Rules.{rules}
use Rattle.state_figures.proofs.RecordLaws.{updated_there, updated_none}
use Rattle.state_figures.proofs.update.Goals as goal

ruleset L = (rules)

pub returns-then-wide-rs : goal.returns-then-wide-rs
returns-then-wide-rs c = updated_there _ _ _ _ _ _ _ c.made_count-made.ensures c.instance_at.ensures
    c.is_finished-done.ensures _ _ refl c.record_after.ensures

pub returns-else-wide-rs : goal.returns-else-wide-rs
returns-else-wide-rs c = updated_none _ _ _ _ _ _ _ c.made_count-made.ensures c.instance_at.ensures c.is_finished-done.ensures
    (rw c.wide.ensures at c.if-wide-rs.false)
