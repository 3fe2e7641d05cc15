use Rattle.base_words.proofs.PickLaws.{flag_no}
use Rattle.base_words.proofs.PickLaws.{flag_yes}
use Rattle.base_words.proofs.PickLaws.{pick_no}
use Rattle.base_words.proofs.PickLaws.{pick_yes}
use Rattle.draw_chart.proofs.PutLaws.{puts_as}
use Rattle.draw_chart.proofs.PutLaws.{puts_none}
use Rattle.draw_map.specs.Map.{element_lines}
use mathlib.Core.Path.{refl}
use borrow.Author.Rules.{rules}
use mathlib.Core.Path.{ap}
use mathlib.Core.Bool.{not}
use Rattle.draw_chart.proofs.pools.put_element_lines.Goals as goal

pub is_of-requires : goal.is_of-requires
unfolding element_lines
is_of-requires c = search rules

pub returns-then-not-is_of : goal.returns-then-not-is_of
unfolding element_lines
returns-then-not-is_of c = puts_as _ (pick_no _ _ _ _ (flag_no _ _ c.is_of.ensures (ap not c.if-not-is_of.true)) refl) (puts_none _ _)

pub count_of-e-requires : goal.count_of-e-requires
unfolding element_lines
count_of-e-requires c = search rules

pub put_with_belonging-requires : goal.put_with_belonging-requires
unfolding element_lines
put_with_belonging-requires c = search rules

pub returns : goal.returns
unfolding element_lines
returns c = puts_as _ (pick_yes _ _ _ _ (flag_yes _ _ c.is_of.ensures (ap not c.if-not-is_of.false)) (rw c.count_of-e.ensures)) c.put_with_belonging.ensures
