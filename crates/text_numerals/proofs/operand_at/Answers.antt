use Rattle.text_numerals.proofs.NumeralLaws.{operand_none, operand_plain, operand_field_at}
use Rattle.base_words.proofs.PickLaws.{flag_yes, flag_no}
use mathlib.Core.Path.{ap}
use mathlib.Core.Bool.{not}
use Rattle.text_numerals.proofs.operand_at.Goals as goal

pub returns-then-text-p : goal.returns-then-text-p
returns-then-text-p c = operand_none _ _ c.if-text-p.true

pub returns-then-not-is_field_letter : goal.returns-then-not-is_field_letter
returns-then-not-is_field_letter c = operand_plain _ _ _ _ (flag_no _ _ c.is_field_letter.ensures (ap not c.if-not-is_field_letter.true)) c.numeral_at-plain.ensures c.as_number.ensures

pub returns : goal.returns
returns c = operand_field_at _ _ _ _ _ c.if-text-p.false (flag_yes _ _ c.is_field_letter.ensures (ap not c.if-not-is_field_letter.false)) c.numeral_at-behind.ensures c.field_from.ensures c.as_field.ensures
