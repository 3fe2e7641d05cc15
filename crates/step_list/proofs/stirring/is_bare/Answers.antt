use Rattle.base_words.proofs.PickLaws.{eqb_same}
use Rattle.step_list.specs.Scanned.{is_bare}
use Rattle.step_list.proofs.stirring.is_bare.Goals as goal

pub returns : goal.returns
unfolding is_bare
returns c = rw (← c.word_in.ensures) (eqb_same _ _ _ c.tokens_on.ensures)
