use Rattle.state_figures.proofs.RecordLaws.{told, record_long}
use native.Mathlib.Omega.{arith}
use Rattle.state_figures.proofs.record_agrees.Goals as goal

pub returns : goal.returns
returns c = told _ _ _ _ c.record_of.ensures (omega arith) (record_long _ _) c.eq.ensures
