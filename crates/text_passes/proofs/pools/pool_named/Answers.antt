use Rattle.text_passes.proofs.PoolLaws.{not_named, multiple_named, plain_named}
use Rattle.text_passes.proofs.pools.pool_named.Goals as goal

pub returns-then-same : goal.returns-then-same
returns-then-same c = plain_named _ _ c.same.ensures c.if-same.true

pub returns-then-same-2 : goal.returns-then-same-2
returns-then-same-2 c = multiple_named _ _ _ c.same.ensures c.if-same.false c.same-2.ensures c.if-same-2.true

pub returns : goal.returns
returns c = not_named _ _ _ c.same.ensures c.if-same.false c.same-2.ensures c.if-same-2.false
