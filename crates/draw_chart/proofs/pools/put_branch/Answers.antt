use Rattle.base_words.proofs.PickLaws.{flag_no}
use Rattle.base_words.proofs.PickLaws.{flag_yes}
use Rattle.base_words.proofs.PickLaws.{pick_no}
use Rattle.base_words.proofs.PickLaws.{pick_yes}
use Rattle.draw_chart.proofs.PutLaws.{puts_as}
use Rattle.draw_chart.proofs.PutLaws.{puts_none}
use Rattle.draw_map.specs.Map.{branch_line}
use mathlib.Core.Path.{refl}
use borrow.Author.Rules.{rules}
use mathlib.Core.Path.{ap}
use mathlib.Core.Bool.{not}
use Rattle.draw_chart.proofs.pools.put_branch.Goals as goal

pub is_with-requires : goal.is_with-requires
unfolding branch_line
is_with-requires c = search rules

pub returns-then-not-is_with : goal.returns-then-not-is_with
unfolding branch_line
returns-then-not-is_with c = puts_as _ (pick_no _ _ _ _ (flag_no _ _ c.is_with.ensures (ap not c.if-not-is_with.true)) refl) (puts_none _ _)

pub count_with-b-requires : goal.count_with-b-requires
unfolding branch_line
count_with-b-requires c = search rules

pub target_of-requires : goal.target_of-requires
unfolding branch_line
target_of-requires c = search rules

pub place_of-node-requires : goal.place_of-node-requires
unfolding branch_line
place_of-node-requires c = search rules

pub next_number-requires : goal.next_number-requires
unfolding branch_line
next_number-requires c = search rules

pub place_of-requires : goal.place_of-requires
unfolding branch_line
place_of-requires c = search rules

pub put_line-requires : goal.put_line-requires
unfolding branch_line
put_line-requires c = search rules

pub returns : goal.returns
unfolding branch_line
returns c = puts_as _ (pick_yes _ _ _ _ (flag_yes _ _ c.is_with.ensures (ap not c.if-not-is_with.false)) (rw (c.next_number.ensures, c.count_with-b.ensures, c.place_of.ensures, c.place_of-node.ensures, c.target_of.ensures))) c.put_line.ensures
