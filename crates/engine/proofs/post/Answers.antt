use Rattle.engine.proofs.CallLaws.{post_bad, post_done, lent_good}
use Rattle.engine.proofs.post.Goals as goal

pub returns-then-number-ne-ACCEPTED : goal.returns-then-number-ne-ACCEPTED
returns-then-number-ne-ACCEPTED c = post_bad _ _ _ c.lent_number-number.ensures.0 c.if-number-ne-ACCEPTED.true _ _

pub returns : goal.returns
returns c = post_done c.args.t.now c.args.z.now (c.lent_number-number.ensures.1 c.if-number-ne-ACCEPTED.false) (lent_good _ _ _ c.lent_number-number.ensures.0 c.if-number-ne-ACCEPTED.false) _ _ _ _ c.post_on.ensures
