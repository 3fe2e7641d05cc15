use Rattle.draw_diagnose.proofs.Laws.{told_by}
use Rattle.draw_diagnose.proofs.told_of.Goals as goal

pub returns : goal.returns
returns c = told_by _ _ _ _ c.told.ensures c.broken_in-b.ensures
