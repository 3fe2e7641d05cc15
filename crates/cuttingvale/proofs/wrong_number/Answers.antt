use Rattle.cuttingvale.specs.Boundary.{lent_wrong}
use Rattle.base_words.proofs.PickLaws.{pick_yes, pick_no}
use mathlib.Core.Path.{refl}
use borrow.Author.Tests.{lt-ltb, le-ltb}
use Rattle.cuttingvale.proofs.wrong_number.Goals as goal

pub returns-then-count-gt-ITEMS : goal.returns-then-count-gt-ITEMS
unfolding lent_wrong
returns-then-count-gt-ITEMS c = pick_yes _ _ _ _ (lt-ltb _ _ c.if-count-gt-ITEMS.true) refl

pub returns : goal.returns
unfolding lent_wrong
returns c = pick_no _ _ _ _ (le-ltb _ _ c.if-count-gt-ITEMS.false) refl
