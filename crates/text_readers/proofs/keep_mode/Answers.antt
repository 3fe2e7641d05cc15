use Rattle.text_readers.proofs.KeepLaws.{mode_none, mode_stored}
use Rattle.text_readers.proofs.keep_mode.Goals as goal

pub returns-then-m-eq0 : goal.returns-then-m-eq0
returns-then-m-eq0 c = mode_none _ _ _ _ c.if-m-eq0.true

pub returns : goal.returns
returns c = mode_stored _ _ _ _ _ c.if-m-eq0.false c.put.ensures
