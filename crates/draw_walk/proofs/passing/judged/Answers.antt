use mathlib.Core.Path.{refl}
use borrow.Author.Tests.{le-leb, lt-leb}
use Rattle.base_words.proofs.PickLaws.{pick_yes, pick_no}
use Rattle.draw_walk.specs.Walk.{judged}
use borrow.Author.Rules.{rules}
use Rattle.draw_walk.proofs.passing.judged.Goals as goal

pub piece-requires : goal.piece-requires
unfolding judged
piece-requires c = search rules

pub number_of-requires : goal.number_of-requires
unfolding judged
number_of-requires c = search rules

pub is_number-requires : goal.is_number-requires
unfolding judged
is_number-requires c = search rules

pub skip-requires : goal.skip-requires
unfolding judged
skip-requires c = search rules

pub returns-then-is_number : goal.returns-then-is_number
unfolding judged
returns-then-is_number c = rw (← c.piece.ensures, ← c.number_of.ensures, ← c.is_number.ensures) (pick_yes _ _ _ _ c.if-is_number.true c.skip.ensures)

pub markup-m-requires : goal.markup-m-requires
unfolding judged
markup-m-requires c = search rules

pub skip-requires-then-m-to : goal.skip-requires-then-m-to
unfolding judged
skip-requires-then-m-to c = search rules

pub returns-then-m-to : goal.returns-then-m-to
unfolding judged
returns-then-m-to c = rw (← c.piece.ensures, ← c.number_of.ensures, ← c.is_number.ensures, ← c.markup-m.ensures) (pick_no _ _ _ _ c.if-is_number.false (pick_yes _ _ _ _ (le-leb _ _ c.if-m-to.true) c.skip-then-m-to.ensures))

pub returns : goal.returns
unfolding judged
returns c = rw (← c.piece.ensures, ← c.number_of.ensures, ← c.is_number.ensures, ← c.markup-m.ensures) (pick_no _ _ _ _ c.if-is_number.false (pick_no _ _ _ _ (lt-leb _ _ c.if-m-to.false) refl))
