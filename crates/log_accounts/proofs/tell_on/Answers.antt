use Rattle.log_accounts.proofs.TellLaws.{tell_all}
use Rattle.log_accounts.proofs.tell_on.Goals as goal

pub returns : goal.returns
returns c = tell_all _ _ _ _ _ _ _ _ _ _ c.tell_lines-s.ensures.0 c.tell_lines-s.ensures.1 c.queued_of-queued.ensures
