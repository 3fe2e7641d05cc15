use Rattle.text_readers.proofs.WordLaws.{starts_number_lem, starts_no_number}
use Rattle.text_readers.proofs.starts_number.Goals as goal

pub returns-in_default : goal.returns-in_default
returns-in_default c = starts_no_number _ _ _ c.token_at-token.ensures c.in_default.not-Word

pub returns : goal.returns
returns c = starts_number_lem _ _ _ c.token_at-token.ensures _ c.in-Word.is c.piece.ensures _ _ c.number_of.ensures c.is_spelled.ensures
