use mathlib.Core.Path.{◌∙◌, refl, sym}
use Prim.Native.Nat.{◌-◌}
use native.Mathlib.Omega.{arith}
use Rattle.log_text.proofs.Laws.{scan_end, scan_on, scan_done, scan_fault, step_past}
use Rattle.log_text.proofs.scan_from.Goals as goal

pub loop-d-init : goal.loop-d-init
loop-d-init c = refl

pub loop-d-smaller : goal.loop-d-smaller
loop-d-smaller c = omega (arith, c.loop-d-test.true, step_past _ _ _ c.advance-m.ensures _ c.in-On.is)

pub loop-d-preserved : goal.loop-d-preserved
loop-d-preserved c = sym (scan_on _ _ _ c.advance-m.ensures _ c.in-On.is) ∙ c.loop-d.invariant

pub returns-in-Done : goal.returns-in-Done
returns-in-Done c = sym (scan_done _ _ _ c.advance-m.ensures _ c.in-Done.is _ c.last_from.ensures) ∙ c.loop-d.invariant

pub returns-in-Fault : goal.returns-in-Fault
returns-in-Fault c = sym (scan_fault _ _ _ c.advance-m.ensures _ c.in-Fault.is) ∙ c.loop-d.invariant

pub returns : goal.returns
returns c = sym (scan_end _ c.loop-d.d c.loop-d-test.false) ∙ c.loop-d.invariant
