use Rattle.step_list.proofs.LevelLaws.{phase_none, phase_some}
use Rattle.step_names.proofs.ScanLaws.{passed_none, passed_more, level_found, level_passed}
use Rattle.meaning.specs.Requirements.{branch_count}
use mathlib.Core.Path.{◌∙◌, ap₂}
use Prim.Native.Nat.{◌-◌}
use Rattle.step_list.proofs.levels.scan_phase.Goals as goal

pub returns-then-m-eq0 : goal.returns-then-m-eq0
returns-then-m-eq0 c = phase_none _ _ _ _ _ _ _ _ c.move_at-m.ensures _ _ c.if-m-eq0.true c.passed.ensures

pub loop-b-init : goal.loop-b-init
loop-b-init c = passed_none _ _

pub returns-then-r : goal.returns-then-r
returns-then-r c = level_found _ _ _ _ _ _ _ _ (phase_some _ _ _ _ _ _ _ _ c.move_at-m.ensures c.if-m-eq0.false) (c.branch_count-count.ensures ∙ ap₂ branch_count c.element_at.ensures c.move_at-m.ensures) c.loop-b-test.true c.loop-b.invariant c.scan_branch-r.ensures c.if-r.true

pub loop-b-preserved : goal.loop-b-preserved
loop-b-preserved c = passed_more _ _ _ _ _ c.loop-b.invariant c.scan_branch-r.ensures c.if-r.false

pub returns : goal.returns
returns c = level_passed _ _ _ _ _ _ _ _ (phase_some _ _ _ _ _ _ _ _ c.move_at-m.ensures c.if-m-eq0.false) (c.branch_count-count.ensures ∙ ap₂ branch_count c.element_at.ensures c.move_at-m.ensures) c.loop-b-test.false c.loop-b.auto.b-end c.loop-b.invariant c.passed-2.ensures
