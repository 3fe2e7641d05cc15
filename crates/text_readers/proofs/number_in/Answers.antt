use Rattle.text_readers.proofs.WordLaws.{number_read}
use Rattle.text_readers.proofs.number_in.Goals as goal

pub returns : goal.returns
returns c = number_read _ _ _ c.past_blanks-p.ensures _ c.numeral_at-numeral.ensures _ _ _ _ _ c.keep_number.ensures
