use mathlib.Core.Path.{◌∙◌, refl, sym}
use native.Mathlib.Omega.{arith}
use Rattle.xml_document.proofs.Laws.{outside_end, outside_on, outside_stops, outside_past}
use Rattle.xml_document.proofs.outside_from.Goals as goal

pub loop-at-init : goal.loop-at-init
loop-at-init c = refl

pub returns-in_default : goal.returns-in_default
returns-in_default c = sym (outside_stops _ _ _ c.run.ensures _ c.outside_at-o.ensures c.in_default.not-On) ∙ c.loop-at.invariant

pub loop-at-smaller : goal.loop-at-smaller
loop-at-smaller c = omega (arith, outside_past _ _ _ c.run.ensures _ c.outside_at-o.ensures _ c.in-On.is)

pub loop-at-preserved : goal.loop-at-preserved
loop-at-preserved c = sym (outside_on _ _ _ c.run.ensures _ c.outside_at-o.ensures _ c.in-On.is) ∙ c.loop-at.invariant

pub returns : goal.returns
returns c = sym (outside_end _ _ c.loop-at-test.false) ∙ c.loop-at.invariant
