use Rattle.base_words.proofs.PickLaws.{flag_is}
use borrow.Author.Tests.{not-true, not-false}
use Rattle.step_take.proofs.StateLaws.{refused_there, found}
use mathlib.Core.Path.{ap}
use mathlib.Core.Bool.{not}
use Rattle.step_take.proofs.step_in.Goals as goal

pub returns-then-not-is_there : goal.returns-then-not-is_there
returns-then-not-is_there c = refused_there c.args.t.now c.args.z.now c.args.n c.pool_of-p.result _ c.move_at-m.result c.made_in-made.result c.pool_of-p.ensures c.element_at-el.ensures c.move_at-m.ensures c.made_in-made.ensures _ (flag_is _ _ _ c.is_there.ensures (not-true _ (ap not c.if-not-is_there.true))) c.refuse.ensures

pub returns : goal.returns
returns c = found c.args.t.now c.args.z.now c.args.n c.pool_of-p.result _ c.move_at-m.result c.made_in-made.result c.pool_of-p.ensures c.element_at-el.ensures c.move_at-m.ensures c.made_in-made.ensures c.limit_of-limit.result _ _ (flag_is _ _ _ c.is_there.ensures (not-false _ (ap not c.if-not-is_there.false))) c.limit_of-limit.ensures c.step_at.ensures
