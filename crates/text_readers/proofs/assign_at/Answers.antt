use Rattle.text_readers.proofs.WordLaws.{assign_read, assign_missed}
use Rattle.text_readers.proofs.assign_at.Goals as goal

pub returns-in_default : goal.returns-in_default
returns-in_default c = assign_missed _ _ _ c.token_at-token.ensures c.in_default.not-Assign

pub returns : goal.returns
returns c = assign_read _ _ _ c.token_at-token.ensures c.in-Assign.is
