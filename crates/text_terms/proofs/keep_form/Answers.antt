use Rattle.text_readers.proofs.KeepLaws.{stored}
use Rattle.text_terms.proofs.keep_form.Goals as goal

pub returns : goal.returns
returns c = stored _ _ _ c.put.ensures
