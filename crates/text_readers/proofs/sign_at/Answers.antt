use Rattle.text_readers.proofs.WordLaws.{sign_read, sign_missed}
use Rattle.text_readers.proofs.sign_at.Goals as goal

pub returns-then-p-q : goal.returns-then-p-q
returns-then-p-q c = sign_read _ _ _ _ c.past_blanks-p.ensures _ c.sign_behind-q.ensures c.if-p-q.true

pub returns-else-p-q : goal.returns-else-p-q
returns-else-p-q c = sign_missed _ _ _ _ c.past_blanks-p.ensures _ c.sign_behind-q.ensures c.if-p-q.false
