use Rattle.cuttingvale.specs.Boundary.{written_by}
use borrow.Author.Tests.{eq-eqb, ne_eqb}
use Rattle.base_words.proofs.PickLaws.{pick_yes, pick_no}
use mathlib.Core.Path.{refl}
use Rattle.cuttingvale.proofs.cv_write.Goals as goal

pub returns-then-tablelength-ne-TABLE_WORDS : goal.returns-then-tablelength-ne-TABLE_WORDS
unfolding written_by
returns-then-tablelength-ne-TABLE_WORDS c = pick_no _ _ _ _ (ne_eqb _ _ c.if-tablelength-ne-TABLE_WORDS.true) refl

pub returns : goal.returns
unfolding written_by
returns c = pick_yes _ _ _ _ (eq-eqb _ _ c.if-tablelength-ne-TABLE_WORDS.false) c.write.ensures
