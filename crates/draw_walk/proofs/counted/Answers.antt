use mathlib.Core.Path.{refl}
use borrow.Author.Tests.{eq-eqb, ne_eqb}
use Rattle.base_words.proofs.PickLaws.{pick_yes, pick_no}
use Rattle.draw_walk.specs.Walk.{counted}
use borrow.Author.Rules.{rules}
use Rattle.draw_walk.proofs.counted.Goals as goal

pub one_more-requires : goal.one_more-requires
unfolding counted
one_more-requires c = search rules

pub returns-then-s-eq-NOTHING : goal.returns-then-s-eq-NOTHING
unfolding counted
returns-then-s-eq-NOTHING c = pick_yes _ _ _ _ (eq-eqb _ _ c.if-s-eq-NOTHING.true) refl

pub returns-else-s-eq-NOTHING : goal.returns-else-s-eq-NOTHING
unfolding counted
returns-else-s-eq-NOTHING c = pick_no _ _ _ _ (ne_eqb _ _ c.if-s-eq-NOTHING.false) c.one_more.ensures
