use native.Mathlib.Omega.{arith}
use Rattle.text_read.proofs.ReadLaws.{too_long_lem, text_refused, model_refused, text_read}
use Rattle.text_read.proofs.read_into.Goals as goal

pub returns-then-text-gt-TEXT_MOST : goal.returns-then-text-gt-TEXT_MOST
returns-then-text-gt-TEXT_MOST c = too_long_lem _ _ c.if-text-gt-TEXT_MOST.true

pub returns-in-Err : goal.returns-in-Err
returns-in-Err c = text_refused _ _ c.if-text-gt-TEXT_MOST.false _ _ c.pass.ensures _ _ c.in-Err.is c.from.ensures

pub returns-then-answer-ne-ACCEPTED : goal.returns-then-answer-ne-ACCEPTED
returns-then-answer-ne-ACCEPTED c = model_refused _ _ c.if-text-gt-TEXT_MOST.false _ _ c.pass.ensures _ c.in_default.is _ c.answer_for-answer.ensures (λ z. omega (arith, c.if-answer-ne-ACCEPTED.true))

pub returns : goal.returns
returns c = text_read _ _ c.if-text-gt-TEXT_MOST.false _ _ c.pass.ensures _ c.in_default.is _ c.answer_for-answer.ensures (omega (arith, c.if-answer-ne-ACCEPTED.false)) _ c.fill.ensures
