use mathlib.Core.Path.{refl}
use borrow.Author.Tests.{lt-ltb, le-ltb}
use Rattle.base_words.proofs.PickLaws.{pick_yes, pick_no}
use Rattle.meaning.specs.Tuples.{value_of}
use Rattle.step_values.proofs.tuples.value_of.Goals as goal

pub returns-then-j-g : goal.returns-then-j-g
unfolding value_of
returns-then-j-g c = pick_yes _ _ _ _ (lt-ltb _ _ c.if-j-g.true) (rw c.wide.ensures at c.word.ensures)

pub returns-else-j-g : goal.returns-else-j-g
unfolding value_of
returns-else-j-g c = pick_no _ _ _ _ (le-ltb _ _ c.if-j-g.false) refl
