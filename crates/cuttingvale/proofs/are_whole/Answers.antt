use Rattle.cuttingvale.specs.Boundary.{are_whole}
use Rattle.base_words.proofs.PickLaws.{and_yes, and_no}
use borrow.Author.Tests.{eq-eqb, ne_eqb}
use mathlib.Core.Path.{refl}
use Rattle.cuttingvale.proofs.are_whole.Goals as goal

pub returns-then-tablelength-ne-TABLE_WORDS : goal.returns-then-tablelength-ne-TABLE_WORDS
unfolding are_whole
returns-then-tablelength-ne-TABLE_WORDS c = and_no _ _ (ne_eqb _ _ c.if-tablelength-ne-TABLE_WORDS.true)

pub returns : goal.returns
unfolding are_whole
returns c = and_yes _ _ _ (eq-eqb _ _ c.if-tablelength-ne-TABLE_WORDS.false) refl
