use Rattle.state_records.proofs.FourLaws.{four_done}
use Rattle.state_records.proofs.four_of.Goals as goal

pub returns : goal.returns
returns c = four_done _ _ _ _ _ _ c.from-first.ensures c.from-second.ensures c.from-third.ensures c.from-fourth.ensures
