use Rattle.log_accounts.proofs.TellLaws.{tell_start, tell_none}
use Rattle.log_accounts.proofs.tell_lines.Goals as goal

pub returns-in_default : goal.returns-in_default
returns-in_default c = tell_none _ _ _ _ _ _ _ _ c.start-first.ensures c.in_default.not-On _ c.nothing_told.ensures

pub returns : goal.returns
returns c = tell_start _ _ _ _ _ _ _ _ c.start-first.ensures _ c.in-On.is _ _ c.tell_from.ensures.0 c.tell_from.ensures.1
