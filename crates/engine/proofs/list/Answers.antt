use Rattle.engine.proofs.CallLaws.{list_bad, list_done, lent_good}
use Rattle.engine.proofs.list.Goals as goal

pub returns-then-number-ne-ACCEPTED : goal.returns-then-number-ne-ACCEPTED
returns-then-number-ne-ACCEPTED c = list_bad _ _ _ c.lent_number-number.ensures.0 c.if-number-ne-ACCEPTED.true _ _ c.unlisted.ensures

pub returns : goal.returns
returns c = list_done c.args.t.now c.args.z.now (c.lent_number-number.ensures.1 c.if-number-ne-ACCEPTED.false) (lent_good _ _ _ c.lent_number-number.ensures.0 c.if-number-ne-ACCEPTED.false) _ _ c.list_on.ensures
