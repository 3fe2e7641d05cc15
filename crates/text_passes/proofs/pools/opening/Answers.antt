use Rattle.text_passes.proofs.PoolLaws.{opened}
use Rattle.text_passes.proofs.pools.opening.Goals as goal

pub returns : goal.returns
returns c = opened _ _ _ _ c.number_between.ensures
