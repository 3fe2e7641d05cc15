use Rattle.text_readers.proofs.WordLaws.{mode_read, mode_missed}
use Rattle.text_readers.proofs.mode_in.Goals as goal

pub returns-in_default : goal.returns-in_default
returns-in_default c = mode_missed _ _ _ c.token_at-token.ensures c.in_default.not-Word _

pub returns : goal.returns
returns c = mode_read _ _ _ c.token_at-token.ensures _ c.in-Word.is c.piece.ensures _ _ _ c.mode_named.ensures c.keep_mode.ensures
