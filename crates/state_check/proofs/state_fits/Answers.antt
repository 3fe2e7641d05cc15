use Rattle.state_check.proofs.CallLaws.{state_by}
use borrow.Author.Rules.{rules}
use Rattle.state_check.proofs.state_fits.Goals as goal

ruleset L = (rules)

pub returns : goal.returns
returns c = (state_by _ c.args.z.now _ _ _ c.head.ensures c.tail.ensures c.both_fit.ensures, search L)
