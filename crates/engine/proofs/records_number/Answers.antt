use Rattle.engine.proofs.DeskLaws.{number_done}
use Rattle.engine.proofs.records_number.Goals as goal

pub returns : goal.returns
returns c = number_done _ _ _ _ _ c.lent_number.ensures c.number_in.ensures
