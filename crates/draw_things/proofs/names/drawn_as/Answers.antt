use Rattle.draw_things.proofs.SortLaws.{drawn_elsewhere, drawn_another, drawn_plain}
use Rattle.draw_things.proofs.names.drawn_as.Goals as goal

pub returns-then-parent-ne-PROCESS : goal.returns-then-parent-ne-PROCESS
returns-then-parent-ne-PROCESS c = drawn_elsewhere _ _ _ _ c.if-parent-ne-PROCESS.true

pub returns-then-draws_another : goal.returns-then-draws_another
returns-then-draws_another c = drawn_another _ _ _ _ c.if-parent-ne-PROCESS.false _ c.draws_another.ensures c.if-draws_another.true

pub returns : goal.returns
returns c = drawn_plain _ _ _ _ c.if-parent-ne-PROCESS.false _ c.draws_another.ensures c.if-draws_another.false
