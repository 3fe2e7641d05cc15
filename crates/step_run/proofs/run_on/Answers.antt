use Rattle.step_run.proofs.PartLaws.{instances_then, queues_then}
use Rattle.step_run.proofs.RunLaws.{taken_none, taken_more, taken_stop, taken_full}
use Prim.Native.Nat.{◌-◌}
use Rattle.step_run.proofs.run_on.Goals as goal

pub loop-steps-init : goal.loop-steps-init
loop-steps-init c = taken_none _ _ _ _ _

pub returns-then-first-ne0 : goal.returns-then-first-ne0
returns-then-first-ne0 c = taken_stop _ _ _ _ _ _ _ c.loop-steps.invariant c.loop-steps-test.true _ c.list_on-first.ensures c.if-first-ne0.true

pub loop-steps-preserved : goal.loop-steps-preserved
loop-steps-preserved c = taken_more _ _ _ _ _ _ _ c.loop-steps.invariant c.loop-steps-test.true _ c.list_on-first.ensures _ _ c.if-first-ne0.false (instances_then _ c.loop-steps.z _ c.list_on-first.result.name _ c.step_on.ensures) (queues_then _ c.loop-steps.z _ c.list_on-first.result.name _ c.step_on.ensures)

pub returns : goal.returns
returns c = taken_full _ _ _ _ _ _ _ c.loop-steps.invariant _ c.loop-steps-test.false c.loop-steps.auto.steps-end c.whether_left.ensures
