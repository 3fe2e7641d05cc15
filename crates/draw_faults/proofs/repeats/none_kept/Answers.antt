use mathlib.Core.Bool.{false≢true}
use native.Mathlib.Omega.{arith}
use Rattle.draw_faults.proofs.RepeatLaws.{none_kept_on}
use Rattle.draw_faults.proofs.repeats.none_kept.Goals as goal

pub loop-y-init : goal.loop-y-init
loop-y-init c up x h = absurd (omega (arith, h))

pub returns-then-is_kept : goal.returns-then-is_kept
returns-then-is_kept c e = absurd (false≢true e)

pub loop-y-preserved : goal.loop-y-preserved
loop-y-preserved c up = none_kept_on _ _ c.args.v.now _ _ (c.loop-y.invariant up) (c.is_kept.ensures c.if-is_kept.false up)

pub returns : goal.returns
returns c e up x h = c.loop-y.invariant up x (omega (arith, h, c.loop-y-test.false))
