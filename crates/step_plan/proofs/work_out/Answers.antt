use Rattle.step_plan.proofs.PlanLaws.{worked_out}
use Rattle.std.proofs.Common.{◌≡◌, ◌&&◌}
use Rattle.step_plan.proofs.work_out.Goals as goal
use Rattle.step_plan.proofs.work_out.Goals.{then-worked, else-worked}

pub returns : goal.returns
returns c =
    let d : c.if-worked.defined ≡ c.work-worked.result && c.message_of-message.result.defined = elim c.if-worked.branch [ then-worked w ↦ rw w.if-worked.true (cc) | else-worked w ↦ rw w.if-worked.false (cc) ] in
    worked_out _ _ _ _ _ _ _ _ _ _ c.message_of-message.result c.receive.ensures c.work-worked.ensures c.message_of-message.ensures c.change_first.ensures d
