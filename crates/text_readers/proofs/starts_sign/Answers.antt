use Rattle.text_readers.proofs.WordLaws.{starts_read, starts_missed}
use Rattle.text_readers.proofs.starts_sign.Goals as goal

pub returns-in_default : goal.returns-in_default
returns-in_default c = starts_missed _ _ _ c.token_at-token.ensures _ c.in_default.not-Sign

pub returns : goal.returns
returns c = starts_read _ _ _ c.token_at-token.ensures _ _ c.in-Sign.is
