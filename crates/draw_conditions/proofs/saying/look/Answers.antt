use mathlib.Core.Path.{◌∙◌, refl, sym}
use native.Mathlib.Omega.{arith}
use Rattle.draw_conditions.proofs.SayingLaws.{said_end, said_byte, said_on, said_over, on_past}
use Rattle.draw_conditions.proofs.saying.look.Goals as goal

pub loop-at-init : goal.loop-at-init
loop-at-init c = refl

pub returns-in-Byte : goal.returns-in-Byte
returns-in-Byte c = sym c.loop-at.invariant ∙ said_byte _ _ _ c.step_at-step.ensures _ _ _ c.in-Byte.is

pub loop-at-smaller : goal.loop-at-smaller
loop-at-smaller c = omega (arith, on_past _ _ _ c.step_at-step.ensures _ c.in-On.is)

pub loop-at-preserved : goal.loop-at-preserved
loop-at-preserved c = sym (said_on _ _ _ c.step_at-step.ensures _ c.in-On.is) ∙ c.loop-at.invariant

pub returns-in-End : goal.returns-in-End
returns-in-End c = sym c.loop-at.invariant ∙ said_over _ _ _ c.step_at-step.ensures c.in-End.is

pub returns : goal.returns
returns c = sym c.loop-at.invariant ∙ said_end _ _ c.loop-at-test.false
