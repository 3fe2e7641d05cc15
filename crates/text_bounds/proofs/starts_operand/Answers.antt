use Rattle.base_bytes.proofs.OrLaws.{or_told, or_no}
use Rattle.base_words.proofs.PickLaws.{flag_is}
use Rattle.text_bounds.proofs.starts_operand.Goals as goal

pub returns-then-starts_field : goal.returns-then-starts_field
returns-then-starts_field c = or_told _ _ _ c.starts_field.ensures c.if-starts_field.true

pub returns-else-starts_field : goal.returns-else-starts_field
returns-else-starts_field c = or_no _ _ _ (flag_is _ _ _ c.starts_field.ensures c.if-starts_field.false) c.starts_number.ensures
