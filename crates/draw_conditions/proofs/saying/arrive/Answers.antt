use mathlib.Core.Path.{◌∙◌, refl, sym}
use native.Mathlib.Omega.{arith}
use Rattle.draw_conditions.proofs.SayingLaws.{said_on, on_past}
use Rattle.draw_conditions.proofs.saying.arrive.Goals as goal

pub loop-at-init : goal.loop-at-init
loop-at-init c = refl

pub returns-in_default : goal.returns-in_default
returns-in_default c = c.loop-at.invariant

pub loop-at-smaller : goal.loop-at-smaller
loop-at-smaller c = omega (arith, on_past _ _ _ c.step_at-step.ensures _ c.in-On.is)

pub loop-at-preserved : goal.loop-at-preserved
loop-at-preserved c = sym (said_on _ _ _ c.step_at-step.ensures _ c.in-On.is) ∙ c.loop-at.invariant

pub returns : goal.returns
returns c = c.loop-at.invariant
