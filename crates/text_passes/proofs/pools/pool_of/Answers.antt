use Rattle.text_passes.proofs.PoolLaws.{opening_passed, opening-stopped}
use Rattle.text_passes.proofs.pools.pool_of.Goals as goal

pub returns-in_err-q : goal.returns-in_err-q
returns-in_err-q c = opening-stopped _ _ _ _ _ _ _ _ c.opening.ensures _ _ c.in_err-q.was c.from_residual.ensures.1 _

pub returns : goal.returns
returns c = opening_passed _ _ _ _ _ _ _ _ c.opening.ensures _ _ _ c.in_ok-q.was c.pool_inside.ensures
