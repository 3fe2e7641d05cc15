use Rattle.step_list.proofs.LevelLaws.{instance_is, element_stirs, more_stirring, more_idle}
use Rattle.step_names.proofs.ScanLaws.{passed_none, level_found, level_passed}
use Rattle.base_words.proofs.PickLaws.{flag_is}
use Prim.Native.Nat.{◌-◌}
use Rattle.step_list.proofs.levels.scan_instance.Goals as goal
use Rattle.step_list.proofs.levels.scan_instance.Goals.{then-stirs_at+else-r, else-stirs_at}

pub loop-e-init : goal.loop-e-init
loop-e-init c = passed_none _ _

pub returns-then-r : goal.returns-then-r
returns-then-r c = level_found _ _ _ _ _ _ _ _ (instance_is _ _ _ _ _) c.element_count-count.ensures c.loop-e-test.true c.loop-e.invariant
    (element_stirs _ _ _ _ _ _ _ _ (flag_is _ _ _ c.stirs_at.ensures c.if-stirs_at.true) c.scan_phases-r.ensures)
    c.if-r.true

pub loop-e-preserved : goal.loop-e-preserved
loop-e-preserved c = elim c.if-stirs_at.branch [
  | then-stirs_at+else-r w ↦ more_stirring _ _ _ _ _ _ _ _ _ c.loop-e.invariant _ (flag_is _ _ _ c.stirs_at.ensures w.if-stirs_at.true) w.scan_phases-r.ensures w.if-r.false w.left-is
  | else-stirs_at w ↦ more_idle _ _ _ _ _ _ _ _ _ c.loop-e.invariant (flag_is _ _ _ c.stirs_at.ensures w.if-stirs_at.false) w.left-is
]

pub returns : goal.returns
returns c = level_passed _ _ _ _ _ _ _ _ (instance_is _ _ _ _ _) c.element_count-count.ensures c.loop-e-test.false c.loop-e.auto.e-end c.loop-e.invariant c.passed.ensures
