use Rattle.state_check.proofs.MarkLaws.{element_marked}
use borrow.Author.Rules.{rules}
use Rattle.state_check.proofs.marks.mark_element.Goals as goal

ruleset L = (rules)

pub returns : goal.returns
returns c = element_marked _ _ _ _ _ c.mark_entries.ensures c.mark_exits.ensures c.mark_counts.ensures
