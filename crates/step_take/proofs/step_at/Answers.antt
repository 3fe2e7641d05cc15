use Rattle.step_take.proofs.StateLaws.{refused_at, accepted_at}
use Rattle.step_take.proofs.step_at.Goals as goal

pub returns-then-number-ne0 : goal.returns-then-number-ne0
returns-then-number-ne0 c = refused_at c.args.el.now c.copy_in-h.result _ c.copy_in-h.ensures c.args.m c.args.made c.args.limit c.args.p c.args.n c.args.z.now c.decide_in-plan.result _ _ c.decide_in-plan.ensures c.if-number-ne0.true c.refuse.ensures

pub returns : goal.returns
returns c = accepted_at c.args.el.now c.copy_in-h.result _ c.copy_in-h.ensures c.args.m c.args.made c.args.limit c.args.p c.args.n c.args.z.now c.decide_in-plan.result _ _ c.decide_in-plan.ensures _ c.if-number-ne0.false c.apply.ensures
