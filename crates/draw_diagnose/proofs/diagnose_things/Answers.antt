use Rattle.draw_diagnose.proofs.Laws.{things_again}
use Rattle.draw_diagnose.proofs.diagnose_things.Goals as goal

pub returns : goal.returns
returns c = things_again _ _ _ _ _ _ c.walk-met.ensures c.settle.ensures c.diagnose_by.ensures
