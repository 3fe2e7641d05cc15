use Rattle.text_passes.proofs.PoolLaws.{pool_passed, pool_unnamed, pool_missed}
use Rattle.text_passes.proofs.pools.pool_at.Goals as goal

pub returns-in_default : goal.returns-in_default
returns-in_default c = pool_missed _ _ _ _ _ _ c.token_at-token.ensures c.in_default.not-Word

pub returns-then-k-eq0 : goal.returns-then-k-eq0
returns-then-k-eq0 c = pool_unnamed _ _ _ _ _ _ c.token_at-token.ensures _ _ c.in-Word.is c.piece.ensures c.pool_named-k.ensures c.if-k-eq0.true

pub returns : goal.returns
returns c = pool_passed _ _ _ _ _ _ c.token_at-token.ensures _ _ c.in-Word.is c.piece.ensures c.pool_named-k.ensures _ _ c.if-k-eq0.false c.pool_of.ensures
