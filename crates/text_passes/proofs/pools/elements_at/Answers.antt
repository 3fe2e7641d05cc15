use Prim.Native.Nat.{◌-◌}
use mathlib.Core.Path.{refl}
use Rattle.text_passes.proofs.TurnLaws.{elements_start, elements_full, element_refused, elements_last, elements-again}
use Rattle.text_passes.proofs.pools.elements_at.Goals as goal

pub loop-n-init : goal.loop-n-init
loop-n-init c = elements_start _ _ _ _ _

pub returns-in_err-q : goal.returns-in_err-q
returns-in_err-q c = element_refused _ _ _ _ _ _ _ c.loop-n.invariant c.loop-n-test.true _ _ c.element_alone.ensures _ _ c.in_err-q.was c.from_residual.ensures.1

pub returns-in_default : goal.returns-in_default
returns-in_default c = elements_last _ _ _ _ _ _ _ c.loop-n.invariant c.loop-n-test.true _ _ c.element_alone.ensures _ c.in_ok-q.was _ c.keep_element.ensures _ c.sign_at.ensures _ c.in_default.is

pub loop-n-preserved : goal.loop-n-preserved
loop-n-preserved c = elements-again _ _ _ _ _ _ _ c.loop-n.invariant c.loop-n-test.true _ _ c.element_alone.ensures _ c.in_ok-q.was _ c.keep_element.ensures _ c.sign_at.ensures _ c.in-Ok.is

pub returns : goal.returns
returns c = elements_full _ _ _ _ _ _ _ c.loop-n.invariant c.loop-n-test.false _ _ c.starts_element.ensures c.too_many.ensures
