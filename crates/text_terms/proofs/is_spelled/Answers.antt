use Rattle.text_terms.proofs.ReaderLaws.{same_by}
use Rattle.text_terms.proofs.is_spelled.Goals as goal

pub returns : goal.returns
returns c = same_by _ _ _ _ c.piece.ensures c.same.ensures
