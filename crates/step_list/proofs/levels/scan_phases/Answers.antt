use Rattle.step_names.proofs.ScanLaws.{passed_none, passed_more, level_found, level_passed}
use mathlib.Core.Path.{refl}
use Prim.Native.Nat.{◌-◌}
use Rattle.step_list.proofs.levels.scan_phases.Goals as goal

pub loop-f-init : goal.loop-f-init
loop-f-init c = passed_none _ _

pub returns-then-r : goal.returns-then-r
returns-then-r c = level_found _ _ _ _ _ _ _ _ refl refl c.loop-f-test.true c.loop-f.invariant c.scan_phase-r.ensures c.if-r.true

pub loop-f-preserved : goal.loop-f-preserved
loop-f-preserved c = passed_more _ _ _ _ _ c.loop-f.invariant c.scan_phase-r.ensures c.if-r.false

pub returns : goal.returns
returns c = level_passed _ _ _ _ _ _ _ _ refl refl c.loop-f-test.false c.loop-f.auto.f-end c.loop-f.invariant c.passed.ensures
