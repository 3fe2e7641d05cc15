use Prim.Native.Nat.{◌-◌}
use mathlib.Core.Path.{refl}
use Rattle.text_passes.proofs.TurnLaws.{pools_start, pools_full, pool_refused, pools_last, pools-again}
use Rattle.text_passes.proofs.pools.pools_at.Goals as goal

pub loop-i-init : goal.loop-i-init
loop-i-init c = pools_start _ _ _ _

pub returns-in_err-q : goal.returns-in_err-q
returns-in_err-q c = pool_refused _ _ _ _ _ _ c.loop-i.invariant c.loop-i-test.true _ _ c.pool_at.ensures _ _ c.in_err-q.was c.from_residual.ensures.1

pub returns-in_default : goal.returns-in_default
returns-in_default c = pools_last _ _ _ _ _ _ c.loop-i.invariant c.loop-i-test.true _ _ c.pool_at.ensures _ c.in_ok-q.was _ c.sign_at.ensures _ c.in_default.is

pub loop-i-preserved : goal.loop-i-preserved
loop-i-preserved c = pools-again _ _ _ _ _ _ c.loop-i.invariant c.loop-i-test.true _ _ c.pool_at.ensures _ c.in_ok-q.was _ c.sign_at.ensures _ c.in-Ok.is

pub returns : goal.returns
returns c = pools_full _ _ _ _ _ _ c.loop-i.invariant c.loop-i-test.false _ _ c.starts_pool.ensures c.too_many.ensures
