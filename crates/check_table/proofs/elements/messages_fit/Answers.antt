use Rattle.check_table.proofs.ElementLaws.{few}
use Rattle.check_table.proofs.elements.messages_fit.Goals as goal

pub message_count-requires : goal.message_count-requires
message_count-requires c = few _ _ _ c.receives_of-receives.ensures c.sends_of.ensures
