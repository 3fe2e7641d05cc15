use Rattle.step_take.proofs.StateLaws.{applied}
use Rattle.step_take.proofs.halves.apply.Goals as goal

pub returns : goal.returns
returns c = applied c.args.el.now c.args.h.now c.args.z.now c.args.m c.args.p c.args.n c.args.made c.args.plan c.message_name-name.result c.made_after-made.result _ _ c.answer_of.result c.requires c.message_name-name.ensures c.made_after-made.ensures c.commit_in.ensures c.deliver_in.ensures c.answer_of.ensures
