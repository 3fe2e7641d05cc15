use Rattle.base_words.proofs.IterLaws.{iter_none, iter_more, iter_done}
use Rattle.state_fits.specs.Fresh.{pool_begun}
use Rattle.state_fresh.proofs.begin_pools.Goals as goal

pub loop-p-init : goal.loop-p-init
loop-p-init c = iter_none (pool_begun c.args.t.now) _

pub loop-p-preserved : goal.loop-p-preserved
loop-p-preserved c = iter_more (pool_begun c.args.t.now) _ _ _ _ c.loop-p.invariant c.begin_pool.ensures

pub returns : goal.returns
returns c = rw (← c.pool_count-p-end.ensures) (iter_done (pool_begun c.args.t.now) _ _ _ _ c.loop-p-test.false c.loop-p.auto.p-end c.loop-p.invariant)
