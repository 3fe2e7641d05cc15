use Rattle.text_readers.proofs.WordLaws.{field_read}
use Rattle.text_readers.proofs.field_in.Goals as goal

pub returns : goal.returns
returns c = field_read _ _ _ _ c.past_blanks-p.ensures c.past_word-q.ensures _ c.piece.ensures _ _ _ _ c.field_of.ensures c.keep_number.ensures
