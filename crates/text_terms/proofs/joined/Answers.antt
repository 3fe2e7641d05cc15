use Rattle.text_terms.proofs.ReaderLaws.{store_goes}
use Rattle.text_terms.proofs.joined.Goals as goal

pub returns : goal.returns
returns c = store_goes _ _ _ _ _ _ _ _ c.put.ensures c.operand_in.ensures
