use Rattle.draw_conditions.proofs.SpelledLaws.{no_letter, a_letter, number_none, number_led, number_is}
use Rattle.draw_conditions.proofs.spelled.number_at.Goals as goal

pub returns-in_default : goal.returns-in_default
returns-in_default c = number_none _ (no_letter _ _ _ c.letter.ensures c.in_default.is)

pub returns-then-leading_zero : goal.returns-then-leading_zero
returns-then-leading_zero c = number_led _ _ _ (a_letter _ _ _ c.letter.ensures _ c.in-Some.is) _ c.leading_zero.ensures c.if-leading_zero.true

pub returns : goal.returns
returns c = number_is _ _ _ (a_letter _ _ _ c.letter.ensures _ c.in-Some.is) _ c.leading_zero.ensures c.if-leading_zero.false _ c.digits.ensures
