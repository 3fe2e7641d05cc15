use Rattle.log_repair.proofs.RepairLaws.{lost, found}
use Rattle.base_words.proofs.PickLaws.{flag_is}
use Rattle.log_repair.proofs.give_broken.Goals as goal

pub returns-then-is_lost : goal.returns-then-is_lost
returns-then-is_lost c = lost _ _ _ _ _ (flag_is _ _ _ c.is_lost.ensures c.if-is_lost.true) c.refused.ensures

pub returns : goal.returns
returns c = found _ _ _ _ _ _ (flag_is _ _ _ c.is_lost.ensures c.if-is_lost.false) c.give_closed.ensures
