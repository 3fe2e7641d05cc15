use Rattle.draw_conditions.proofs.SpelledLaws.{goes_told}
use Rattle.draw_conditions.proofs.spelled.goes_on.Goals as goal

pub returns : goal.returns
returns c = goes_told _ _ _ _ c.letter.ensures c.is_some.ensures
