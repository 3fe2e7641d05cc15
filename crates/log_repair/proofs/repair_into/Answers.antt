use Rattle.log_repair.proofs.RepairLaws.{whole_log, broken_log}
use Rattle.log_repair.proofs.repair_into.Goals as goal

pub returns-in-Ok : goal.returns-in-Ok
returns-in-Ok c = whole_log _ _ _ _ _ c.scan-s.ensures _ c.in-Ok.is c.give_whole.ensures

pub returns-in-Err : goal.returns-in-Err
returns-in-Err c = broken_log _ _ _ _ _ c.scan-s.ensures _ c.in-Err.is c.give_broken.ensures
