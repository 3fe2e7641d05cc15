use Rattle.check_lowest.proofs.PoolLaws.{lowest_here}
use Rattle.check_lowest.proofs.lowest_broken.Goals as goal

pub returns : goal.returns
returns c = lowest_here c.args.t.now _ _ _ c.lowest_in.ensures c.mark_pools.ensures c.pool_count.ensures
