use mathlib.Core.Path.{◌∙◌, refl, sym}
use Prim.Native.Nat.{◌+◌}
use native.Mathlib.Omega.{arith}
use Rattle.draw_conditions.specs.Outline.{outline}
use Rattle.draw_conditions.proofs.OutlineLaws.{outline_on, outline_stops, outline_end, outline_stay, stay_ahead}
use Rattle.draw_conditions.proofs.outline.outline.Goals as goal

pub loop-i-init : goal.loop-i-init
unfolding outline
loop-i-init c = rw c.begun-c.ensures refl

pub returns-in_default : goal.returns-in_default
returns-in_default c = sym (outline_stops _ _ _ c.loop-i-test.true _ c.byte.ensures _ c.moved-a.ensures c.in_default.not-On) ∙ c.loop-i.invariant

pub loop-i-smaller : goal.loop-i-smaller
loop-i-smaller c = omega (arith, stay_ahead _ _ _ _ c.stay-i.ensures)

pub loop-i-preserved : goal.loop-i-preserved
loop-i-preserved c = sym (outline_on _ _ _ c.loop-i-test.true _ c.byte.ensures _ c.moved-a.ensures _ c.in-On.is ∙ outline_stay _ _ (c.loop-i.i + 1) _ c.stay-i.ensures) ∙ c.loop-i.invariant

pub returns : goal.returns
returns c = sym (outline_end _ _ _ c.loop-i-test.false) ∙ c.loop-i.invariant
