use Rattle.base_table.specs.Table.{has_number}
use Rattle.base_words.proofs.PickLaws.{eqb_same}
use Rattle.base_table.proofs.is_numbered.Goals as goal

pub returns : goal.returns
unfolding has_number
returns c = eqb_same _ _ _ c.word.ensures
