use Rattle.cuttingvale.specs.Boundary.{are_lent}
use Rattle.base_words.proofs.PickLaws.{and_yes, and_no}
use borrow.Author.Tests.{eq-eqb, ne_eqb}
use Rattle.cuttingvale.proofs.are_lent.Goals as goal

pub returns-then-itemslength-ne-POLL_WORDS : goal.returns-then-itemslength-ne-POLL_WORDS
unfolding are_lent
returns-then-itemslength-ne-POLL_WORDS c = and_no _ _ (ne_eqb _ _ c.if-itemslength-ne-POLL_WORDS.true)

pub returns : goal.returns
unfolding are_lent
returns c = and_yes _ _ _ (eq-eqb _ _ c.if-itemslength-ne-POLL_WORDS.false) c.are_whole.ensures
