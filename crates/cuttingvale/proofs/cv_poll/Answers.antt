use Rattle.cuttingvale.specs.Boundary.{polled_lent}
use Rattle.base_words.proofs.PickLaws.{pick_yes, pick_no, flag_yes, flag_no}
use mathlib.Core.Path.{ap}
use mathlib.Core.Bool.{not}
use Rattle.cuttingvale.proofs.cv_poll.Goals as goal

pub returns-then-not-are_lent : goal.returns-then-not-are_lent
unfolding polled_lent
returns-then-not-are_lent c = pick_no _ _ _ _ (flag_no _ _ c.are_lent.ensures (ap not c.if-not-are_lent.true)) (rw c.wrong_number.ensures)

pub returns : goal.returns
unfolding polled_lent
returns c = pick_yes _ _ _ _ (flag_yes _ _ c.are_lent.ensures (ap not c.if-not-are_lent.false)) c.poll.ensures
