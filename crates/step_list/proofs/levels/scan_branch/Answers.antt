use Rattle.step_list.proofs.LevelLaws.{branch_received, branch_plain}
use Rattle.step_list.proofs.levels.scan_branch.Goals as goal

pub returns-then-m-eq-ON : goal.returns-then-m-eq-ON
returns-then-m-eq-ON c = branch_received _ _ _ _ _ _ _ _ _ _ _ _ c.move_at-m.ensures c.name_at-n.ensures _ _ c.element_at.ensures c.message_name-name.ensures c.if-m-eq-ON.true c.scan_queue.ensures

pub returns : goal.returns
returns c = branch_plain _ _ _ _ _ _ _ _ _ _ _ _ c.move_at-m.ensures c.name_at-n.ensures c.if-m-eq-ON.false c.scan_name.ensures
