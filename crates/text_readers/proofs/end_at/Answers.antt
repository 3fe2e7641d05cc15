use Rattle.text_readers.proofs.WordLaws.{end_read, end_missed}
use Rattle.text_readers.proofs.end_at.Goals as goal

pub returns-in_default : goal.returns-in_default
returns-in_default c = end_missed _ _ _ c.token_at-token.ensures c.in_default.not-End

pub returns : goal.returns
returns c = end_read _ _ _ c.token_at-token.ensures c.in-End.is
