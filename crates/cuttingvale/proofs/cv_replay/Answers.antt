use Rattle.cuttingvale.specs.Boundary.{replayed_by}
use Rattle.base_words.proofs.PickLaws.{pick_yes, pick_no, flag_yes, flag_no}
use mathlib.Core.Path.{ap}
use mathlib.Core.Bool.{not}
use Rattle.cuttingvale.proofs.cv_replay.Goals as goal

pub returns-then-not-are_whole : goal.returns-then-not-are_whole
unfolding replayed_by
returns-then-not-are_whole c = pick_no _ _ _ _ (flag_no _ _ c.are_whole.ensures (ap not c.if-not-are_whole.true)) (rw c.unjudged.ensures)

pub returns : goal.returns
unfolding replayed_by
returns c = pick_yes _ _ _ _ (flag_yes _ _ c.are_whole.ensures (ap not c.if-not-are_whole.false)) c.replay.ensures
