use Rattle.draw_diagnose.proofs.Laws.{answer_is}
use Rattle.draw_diagnose.proofs.answer_to.Goals as goal

pub returns : goal.returns
returns c = answer_is _ _ _ _ c.draw_into.ensures
