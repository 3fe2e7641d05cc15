use Rattle.draw_conditions.proofs.SpelledLaws.{over_told}
use Rattle.draw_conditions.proofs.spelled.is_over.Goals as goal

pub returns : goal.returns
returns c = over_told _ _ _ _ c.look.ensures c.is_none.ensures
