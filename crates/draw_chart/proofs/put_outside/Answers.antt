use Rattle.base_words.proofs.PickLaws.{flag_no}
use Rattle.base_words.proofs.PickLaws.{flag_yes}
use Rattle.base_words.proofs.PickLaws.{pick_no}
use Rattle.base_words.proofs.PickLaws.{pick_yes}
use Rattle.draw_chart.proofs.PutLaws.{puts_as}
use Rattle.draw_chart.proofs.PutLaws.{puts_none}
use Rattle.draw_map.specs.Map.{outside_line}
use mathlib.Core.Path.{refl}
use borrow.Author.Rules.{rules}
use mathlib.Core.Path.{ap}
use mathlib.Core.Bool.{not}
use Rattle.draw_chart.proofs.put_outside.Goals as goal

pub is_outside-requires : goal.is_outside-requires
unfolding outside_line
is_outside-requires c = search rules

pub returns-then-not-is_outside : goal.returns-then-not-is_outside
unfolding outside_line
returns-then-not-is_outside c = puts_as _ (pick_no _ _ _ _ (flag_no _ _ c.is_outside.ensures (ap not c.if-not-is_outside.true)) refl) (puts_none _ _)

pub place_of-requires : goal.place_of-requires
unfolding outside_line
place_of-requires c = search rules

pub put_line-requires : goal.put_line-requires
unfolding outside_line
put_line-requires c = search rules

pub returns : goal.returns
unfolding outside_line
returns c = puts_as _ (pick_yes _ _ _ _ (flag_yes _ _ c.is_outside.ensures (ap not c.if-not-is_outside.false)) (rw c.place_of.ensures)) c.put_line.ensures
