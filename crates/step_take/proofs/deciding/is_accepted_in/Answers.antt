use Rattle.std.proofs.Common.{◌∙◌}
use Rattle.base_words.proofs.PickLaws.{flag_is}
use Rattle.step_take.proofs.DecidingLaws.{accepted_nowhere, accepted_there}
use Rattle.step_take.proofs.deciding.is_accepted_in.Goals as goal

pub returns-then-is_there : goal.returns-then-is_there
returns-then-is_there c = accepted_there c.args.t.now c.args.z.now c.args.n c.pool_of-p.result _ c.move_at-m.result c.made_in-made.result c.pool_of-p.ensures c.element_at-el.ensures c.move_at-m.ensures c.made_in-made.ensures c.limit_of.result _ (flag_is _ _ _ c.is_there.ensures c.if-is_there.true) c.limit_of.ensures c.is_accepted_at.ensures

pub returns-else-is_there : goal.returns-else-is_there
returns-else-is_there c = c.if-is_there.false ∙ accepted_nowhere c.args.t.now c.args.z.now c.args.n c.pool_of-p.result _ c.move_at-m.result c.made_in-made.result c.pool_of-p.ensures c.element_at-el.ensures c.move_at-m.ensures c.made_in-made.ensures (flag_is _ _ _ c.is_there.ensures c.if-is_there.false)
