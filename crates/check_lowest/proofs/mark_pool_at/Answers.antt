use Rattle.check_lowest.proofs.PoolLaws.{pool_here}
use Rattle.check_lowest.proofs.mark_pool_at.Goals as goal

pub returns : goal.returns
returns c = pool_here c.args.t.now _ _ _ _ _ _ _ c.mark_pool.ensures c.number_at.ensures c.limit_at.ensures c.mark_elements.ensures c.element_count.ensures
