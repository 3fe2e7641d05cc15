use Rattle.state_check.proofs.MarkLaws.{silent_is}
use borrow.Author.Rules.{rules}
use Rattle.state_check.proofs.marks.is_silent.Goals as goal

ruleset L = (rules)

pub returns : goal.returns
returns c = silent_is c.args.el.now _ _ _ c.kind_in-kind.ensures c.receives_of.ensures c.sends_of.ensures
