use Rattle.step_list.proofs.LevelLaws.{pools_are}
use Rattle.step_names.proofs.ScanLaws.{passed_none, passed_more, level_found, level_passed}
use Prim.Native.Nat.{◌-◌}
use Rattle.step_list.proofs.levels.scan_pools.Goals as goal

pub loop-p-init : goal.loop-p-init
loop-p-init c = passed_none _ _

pub returns-then-r : goal.returns-then-r
returns-then-r c = level_found _ _ _ _ _ _ _ _ (pools_are _ _ _) c.pool_count-count.ensures c.loop-p-test.true c.loop-p.invariant c.scan_pool-r.ensures c.if-r.true

pub loop-p-preserved : goal.loop-p-preserved
loop-p-preserved c = passed_more _ _ _ _ _ c.loop-p.invariant c.scan_pool-r.ensures c.if-r.false

pub returns : goal.returns
returns c = level_passed _ _ _ _ _ _ _ _ (pools_are _ _ _) c.pool_count-count.ensures c.loop-p-test.false c.loop-p.auto.p-end c.loop-p.invariant c.passed.ensures
