use borrow.Author.Rules.{rules}
use Rattle.engine.proofs.DeskLaws.{poll_taken, records_long}
use Rattle.engine.proofs.poll.Goals as goal

pub recount_in-requires : goal.recount_in-requires
recount_in-requires c = (search rules, records_long _ _ _ _ c.records_number-number.ensures.0 c.records_number-number.ensures.1 c.records_number-number.ensures.2)

pub returns : goal.returns
returns c = poll_taken _ _ _ _ c.records_number-number.ensures.0 c.records_number-number.ensures.1 c.records_number-number.ensures.2 _ _ _ _ c.poll_on-p.ensures c.recount_in.ensures
