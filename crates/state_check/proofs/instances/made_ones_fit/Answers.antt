use Rattle.state_check.proofs.CallLaws.{made_ones}
use borrow.Author.Rules.{rules}
use Rattle.state_check.proofs.instances.made_ones_fit.Goals as goal

ruleset L = (rules)

pub returns : goal.returns
returns c = made_ones _ _ _ _ _ _ c.mark_pool.ensures c.first_fit.ensures
