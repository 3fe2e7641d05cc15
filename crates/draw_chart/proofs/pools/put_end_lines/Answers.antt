use Rattle.base_words.proofs.PickLaws.{flag_no}
use Rattle.base_words.proofs.PickLaws.{flag_yes}
use Rattle.base_words.proofs.PickLaws.{pick_no}
use Rattle.base_words.proofs.PickLaws.{pick_yes}
use Rattle.draw_chart.proofs.PutLaws.{puts_as}
use Rattle.draw_chart.proofs.PutLaws.{puts_none}
use Rattle.draw_map.specs.Map.{end_lines}
use mathlib.Core.Path.{refl}
use borrow.Author.Rules.{rules}
use mathlib.Core.Path.{ap}
use mathlib.Core.Bool.{not}
use Rattle.draw_chart.proofs.pools.put_end_lines.Goals as goal

pub is_message_end-requires : goal.is_message_end-requires
unfolding end_lines
is_message_end-requires c = search rules

pub returns-then-not-is_message_end : goal.returns-then-not-is_message_end
unfolding end_lines
returns-then-not-is_message_end c = puts_as _ (pick_no _ _ _ _ (flag_no _ _ c.is_message_end.ensures (ap not c.if-not-is_message_end.true)) refl) (puts_none _ _)

pub end_place-e-requires : goal.end_place-e-requires
unfolding end_lines
end_place-e-requires c = search rules

pub place_of-requires : goal.place_of-requires
unfolding end_lines
place_of-requires c = search rules

pub put_with_end-requires : goal.put_with_end-requires
unfolding end_lines
put_with_end-requires c = search rules

pub returns : goal.returns
unfolding end_lines
returns c = puts_as _ (pick_yes _ _ _ _ (flag_yes _ _ c.is_message_end.ensures (ap not c.if-not-is_message_end.false)) (rw (c.end_place-e.ensures, c.place_of.ensures))) c.put_with_end.ensures
