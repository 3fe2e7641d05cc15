use Rattle.check_verdict.specs.Verdict.{pool_regions}
use Rattle.check_lowest.specs.Model.{pool_at}
use Rattle.check_tally.proofs.TallyLaws.{fold_none, fold_more, fold_done}
use Rattle.check_lowest.proofs.mark_pools.Goals as goal

pub loop-p-init : goal.loop-p-init
loop-p-init c = fold_none pool_regions (pool_at c.args.t.now) _

pub loop-p-preserved : goal.loop-p-preserved
loop-p-preserved c = fold_more pool_regions (pool_at c.args.t.now) _ _ _ _ c.mark_pool_at.ensures c.loop-p.invariant

pub returns : goal.returns
returns c = fold_done pool_regions (pool_at c.args.t.now) _ _ _ _ c.loop-p-test.false c.loop-p.auto.p-end c.loop-p.invariant
