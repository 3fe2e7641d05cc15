use Rattle.step_take.proofs.StateLaws.{post_unknown, post_full, post_done}
use borrow.Author.Tests.{not-true, not-false}
use Rattle.base_words.proofs.PickLaws.{flag_is}
use mathlib.Core.Path.{ap}
use mathlib.Core.Bool.{not}
use Rattle.step_take.proofs.halves.post_to.Goals as goal

pub returns-then-not-is_postable : goal.returns-then-not-is_postable
returns-then-not-is_postable c = post_unknown _ _ c.args.g (flag_is _ _ _ c.is_postable.ensures (not-true _ (ap not c.if-not-is_postable.true)))

pub returns-then-not-has_place : goal.returns-then-not-has_place
returns-then-not-has_place c = post_full _ _ c.args.g (flag_is _ _ _ c.is_postable.ensures (not-false _ (ap not c.if-not-is_postable.false))) (flag_is _ _ _ c.has_place.ensures (not-true _ (ap not c.if-not-has_place.true)))

pub returns : goal.returns
returns c = post_done _ _ c.args.g _ (flag_is _ _ _ c.is_postable.ensures (not-false _ (ap not c.if-not-is_postable.false))) (flag_is _ _ _ c.has_place.ensures (not-false _ (ap not c.if-not-has_place.false))) c.append.ensures
