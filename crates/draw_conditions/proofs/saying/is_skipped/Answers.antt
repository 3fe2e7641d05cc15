use Rattle.draw_conditions.proofs.SayingLaws.{skipped_first, skipped_second}
use Rattle.draw_conditions.proofs.saying.is_skipped.Goals as goal

pub returns-then-is_called : goal.returns-then-is_called
returns-then-is_called c = skipped_first _ _ _ c.is_called.ensures c.if-is_called.true

pub returns-else-is_called : goal.returns-else-is_called
returns-else-is_called c = skipped_second _ _ _ _ c.is_called.ensures c.if-is_called.false c.is_called-else-is_called.ensures
