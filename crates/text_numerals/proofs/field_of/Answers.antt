use Rattle.text_numerals.proofs.NumeralLaws.{field_by}
use Rattle.text_numerals.proofs.field_of.Goals as goal

pub returns : goal.returns
returns c = field_by _ _ _ _ _ c.byte.ensures c.piece.ensures c.number_of.ensures c.field_from.ensures
