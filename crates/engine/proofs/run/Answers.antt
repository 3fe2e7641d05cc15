use borrow.Author.Rules.{rules}
use Rattle.engine.proofs.DeskLaws.{run_refused, run_taken, records_long}
use Rattle.engine.proofs.run.Goals as goal

pub returns-then-number-ne-ACCEPTED : goal.returns-then-number-ne-ACCEPTED
returns-then-number-ne-ACCEPTED c = run_refused _ _ _ _ c.records_number-number.ensures.0 c.if-number-ne-ACCEPTED.true _

pub recount_in-requires : goal.recount_in-requires
recount_in-requires c = (search rules, records_long _ _ _ _ c.records_number-number.ensures.0 c.records_number-number.ensures.1 c.records_number-number.ensures.2)

pub returns : goal.returns
returns c = run_taken _ _ _ _ c.records_number-number.ensures.0 c.records_number-number.ensures.1 c.records_number-number.ensures.2 c.if-number-ne-ACCEPTED.false _ _ _ _ _ c.run_on-r.ensures c.recount_in.ensures
