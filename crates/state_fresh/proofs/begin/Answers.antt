use Rattle.state_fresh.proofs.BeginLaws.{begin_all}
use borrow.Author.Rules.{rules}
use Rattle.state_fresh.proofs.begin.Goals as goal

ruleset L = (rules)

pub returns : goal.returns
returns c = begin_all _ c.args.z.now _ _ _ _ c.clear.ensures c.begin_pools.ensures c.put.ensures (search L)
