use borrow.Author.Tests.{eq-eqb, ne_eqb}
use Rattle.base_words.proofs.PickLaws.{pick_yes, pick_no}
use Rattle.draw_walk.specs.Walk.{passed}
use borrow.Author.Rules.{rules}
use Rattle.draw_walk.proofs.passing.pass.Goals as goal

pub multiplicity-requires : goal.multiplicity-requires
unfolding passed
multiplicity-requires c = search rules

pub returns-then-s-eq-PARTICIPANT_MULTIPLICITY : goal.returns-then-s-eq-PARTICIPANT_MULTIPLICITY
unfolding passed
returns-then-s-eq-PARTICIPANT_MULTIPLICITY c = pick_yes _ _ _ _ (eq-eqb _ _ c.if-s-eq-PARTICIPANT_MULTIPLICITY.true) c.multiplicity.ensures

pub skip-requires : goal.skip-requires
unfolding passed
skip-requires c = search rules

pub returns : goal.returns
unfolding passed
returns c = pick_no _ _ _ _ (ne_eqb _ _ c.if-s-eq-PARTICIPANT_MULTIPLICITY.false) c.skip.ensures
