use Rattle.text_numerals.proofs.NumberLaws.{digit_bounds}
use Rattle.text_numerals.specs.Numerals.{grown}
use Rattle.base_words.proofs.PickLaws.{pick_yes, pick_no}
use borrow.Author.Tests.{le-leb, lt-leb}
use mathlib.Core.Path.{refl}
use Rattle.text_numerals.proofs.grown.Goals as goal

pub overflow_sub-result : goal.overflow_sub-result
overflow_sub-result c = (digit_bounds _ c.requires).0

pub returns-then-v : goal.returns-then-v
unfolding grown
returns-then-v c = pick_yes _ _ _ _ (le-leb _ _ c.if-v.true) refl

pub returns : goal.returns
unfolding grown
returns c = pick_no _ _ _ _ (lt-leb _ _ c.if-v.false) refl
