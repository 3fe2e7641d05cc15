use Rattle.text_passes.proofs.PoolLaws.{alone}
use borrow.Author.Rules.{rules}
use Rattle.text_passes.proofs.pools.element_alone.Goals as goal

ruleset L = (rules)

pub returns : goal.returns
returns c = alone _ _ _ _ _ (search L) c.element.ensures
