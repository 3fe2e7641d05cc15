use Rattle.cuttingvale.specs.Boundary.{judged_lent}
use borrow.Author.Tests.{eq-eqb, ne_eqb}
use Rattle.base_words.proofs.PickLaws.{pick_yes, pick_no}
use Rattle.cuttingvale.proofs.cv_judge.Goals as goal

pub returns-then-tablelength-ne-TABLE_WORDS : goal.returns-then-tablelength-ne-TABLE_WORDS
unfolding judged_lent
returns-then-tablelength-ne-TABLE_WORDS c = pick_no _ _ _ _ (ne_eqb _ _ c.if-tablelength-ne-TABLE_WORDS.true) c.unjudged.ensures

pub returns : goal.returns
unfolding judged_lent
returns c = pick_yes _ _ _ _ (eq-eqb _ _ c.if-tablelength-ne-TABLE_WORDS.false) c.judge.ensures
