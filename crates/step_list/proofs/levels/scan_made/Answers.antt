use Rattle.step_list.proofs.LevelLaws.{made_still, made_moves}
use Rattle.step_list.proofs.levels.scan_made.Goals as goal

pub returns-then-is_still : goal.returns-then-is_still
returns-then-is_still c = made_still _ _ _ _ _ _ _ _ c.is_still.ensures c.if-is_still.true c.passed.ensures

pub returns : goal.returns
returns c = made_moves _ _ _ _ _ _ _ _ c.is_still.ensures c.if-is_still.false c.scan_instance.ensures
