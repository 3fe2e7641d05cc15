use mathlib.Core.Path.{sym, ◌∙◌}
use borrow.Author.Tests.{eq-eqb, ne_eqb}
use Rattle.base_words.proofs.PickLaws.{pick_yes, pick_no}
use Rattle.draw_walk.specs.Walk.{entered}
use borrow.Author.Rules.{rules}
use Rattle.draw_walk.proofs.enter.Goals as goal

pub skip-requires : goal.skip-requires
unfolding entered
skip-requires c = search rules

pub tag_from-requires : goal.tag_from-requires
unfolding entered
tag_from-requires c = search rules

pub returns-then-s-eq-NOTHING : goal.returns-then-s-eq-NOTHING
unfolding entered
returns-then-s-eq-NOTHING c = pick_yes _ _ _ _ (eq-eqb _ _ c.if-s-eq-NOTHING.true) (rw c.skip.ensures at c.tag_from.ensures)

pub is_passed-requires : goal.is_passed-requires
unfolding entered
is_passed-requires c = search rules

pub pass-requires : goal.pass-requires
unfolding entered
pass-requires c = search rules

pub tag_from-requires-then-is_passed : goal.tag_from-requires-then-is_passed
unfolding entered
tag_from-requires-then-is_passed c = search rules

pub returns-then-is_passed : goal.returns-then-is_passed
unfolding entered
returns-then-is_passed c = pick_no _ _ _ _ (ne_eqb _ _ c.if-s-eq-NOTHING.false) (pick_yes _ _ _ _ (sym c.is_passed.ensures ∙ c.if-is_passed.true) (rw c.pass.ensures at c.tag_from-then-is_passed.ensures))

pub markup-requires : goal.markup-requires
unfolding entered
markup-requires c = search rules

pub tag_of-requires : goal.tag_of-requires
unfolding entered
tag_of-requires c = search rules

pub returns : goal.returns
unfolding entered
returns c = pick_no _ _ _ _ (ne_eqb _ _ c.if-s-eq-NOTHING.false) (pick_no _ _ _ _ (sym c.is_passed.ensures ∙ c.if-is_passed.false) (rw c.markup.ensures at c.tag_of.ensures))
