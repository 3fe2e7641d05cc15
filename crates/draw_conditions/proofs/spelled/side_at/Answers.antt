use Rattle.draw_conditions.proofs.SpelledLaws.{side_over, side_field, side_number}
use Rattle.base_words.proofs.PickLaws.{flag_is}
use Rattle.draw_conditions.proofs.spelled.side_at.Goals as goal

pub returns-in_default : goal.returns-in_default
returns-in_default c = side_over _ _ _ c.look.ensures _ c.in_default.is c.none.ensures

pub returns-then-is_field_letter : goal.returns-then-is_field_letter
returns-then-is_field_letter c = side_field _ _ _ c.look.ensures _ c.in-Some.is _ _ _ (flag_is _ _ _ c.is_field_letter.ensures c.if-is_field_letter.true) c.number_at.ensures c.field_from.ensures c.field_side.ensures

pub returns : goal.returns
returns c = side_number _ _ _ c.look.ensures _ c.in-Some.is _ _ (flag_is _ _ _ c.is_field_letter.ensures c.if-is_field_letter.false) c.number_at-2.ensures c.number_side.ensures
