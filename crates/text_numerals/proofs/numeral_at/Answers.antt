use Rattle.text_numerals.proofs.NumeralLaws.{numeral_longer, numeral_whole}
use Rattle.text_numerals.proofs.numeral_at.Goals as goal

pub returns-then-end-next : goal.returns-then-end-next
returns-then-end-next c = numeral_longer _ _ _ _ _ c.digits_at-d.ensures c.past_word-next.ensures c.if-end-next.true

pub returns : goal.returns
returns c = numeral_whole _ _ _ _ _ c.digits_at-d.ensures c.past_word-next.ensures _ _ c.if-end-next.false c.piece.ensures c.number_by.ensures
