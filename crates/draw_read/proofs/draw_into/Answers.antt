use Rattle.draw_read.proofs.AnswerLaws.{too_long_lem, walk_amiss, walk_done, walk_stopped}
use borrow.Author.Tests.{not-false, not-true}
use mathlib.Core.Path.{ap}
use mathlib.Core.Bool.{not}
use Rattle.draw_read.proofs.draw_into.Goals as goal

pub returns-then-text-gt-DRAWING_MOST : goal.returns-then-text-gt-DRAWING_MOST
returns-then-text-gt-DRAWING_MOST c = too_long_lem _ _ _ c.if-text-gt-DRAWING_MOST.true c.answer.ensures

pub returns-in_default : goal.returns-in_default
returns-in_default c = walk_stopped _ _ c.if-text-gt-DRAWING_MOST.false _ _ c.walk-met.ensures _ _ c.in_default.is (c.stopped.ensures _ c.in_default.is)

pub returns-then-not-settle : goal.returns-then-not-settle
returns-then-not-settle c = walk_amiss _ _ c.if-text-gt-DRAWING_MOST.false _ _ c.walk-met.ensures _ _ c.in-Ok.is (c.settle.ensures.1 (not-true _ (ap not c.if-not-settle.true))) c.answer-then-not-settle.ensures

pub returns : goal.returns
returns c = walk_done _ _ c.if-text-gt-DRAWING_MOST.false _ _ c.walk-met.ensures _ _ _ c.in-Ok.is (c.settle.ensures.0 (not-false _ (ap not c.if-not-settle.false))) c.judge.ensures
