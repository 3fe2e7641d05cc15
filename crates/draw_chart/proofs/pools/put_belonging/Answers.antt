use Rattle.base_words.proofs.PickLaws.{flag_is}
use Rattle.base_words.proofs.PickLaws.{pick_no}
use Rattle.base_words.proofs.PickLaws.{pick_yes}
use Rattle.draw_chart.proofs.PutLaws.{puts_as}
use Rattle.draw_chart.proofs.PutLaws.{puts_none}
use Rattle.draw_map.specs.Map.{belonging}
use mathlib.Core.Path.{refl}
use borrow.Author.Rules.{rules}
use Rattle.draw_chart.proofs.pools.put_belonging.Goals as goal

pub is_of_kind-requires : goal.is_of_kind-requires
unfolding belonging
is_of_kind-requires c = search rules

pub place_of-requires : goal.place_of-requires
unfolding belonging
place_of-requires c = search rules

pub put_within-requires : goal.put_within-requires
unfolding belonging
put_within-requires c = search rules

pub returns-then-is_of_kind : goal.returns-then-is_of_kind
unfolding belonging
returns-then-is_of_kind c = puts_as _ (pick_yes _ _ _ _ (flag_is _ _ _ c.is_of_kind.ensures c.if-is_of_kind.true) (rw c.place_of.ensures)) c.put_within.ensures

pub is_of_kind-requires-2 : goal.is_of_kind-requires-2
unfolding belonging
is_of_kind-requires-2 c = search rules

pub put_branches-requires : goal.put_branches-requires
unfolding belonging
put_branches-requires c = search rules

pub returns-then-is_of_kind-2 : goal.returns-then-is_of_kind-2
unfolding belonging
returns-then-is_of_kind-2 c = puts_as _ (pick_no _ _ _ _ (flag_is _ _ _ c.is_of_kind.ensures c.if-is_of_kind.false) (pick_yes _ _ _ _ (flag_is _ _ _ c.is_of_kind-2.ensures c.if-is_of_kind-2.true) refl)) c.put_branches.ensures

pub returns : goal.returns
unfolding belonging
returns c = puts_as _ (pick_no _ _ _ _ (flag_is _ _ _ c.is_of_kind.ensures c.if-is_of_kind.false) (pick_no _ _ _ _ (flag_is _ _ _ c.is_of_kind-2.ensures c.if-is_of_kind-2.false) refl)) (puts_none _ _)
