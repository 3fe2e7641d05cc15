use Rattle.base_words.proofs.PickLaws.{flag_no}
use Rattle.base_words.proofs.PickLaws.{flag_yes}
use Rattle.base_words.proofs.PickLaws.{pick_no}
use Rattle.base_words.proofs.PickLaws.{pick_yes}
use Rattle.draw_chart.proofs.PutLaws.{puts_as}
use Rattle.draw_chart.proofs.PutLaws.{puts_none}
use Rattle.draw_map.specs.Map.{message_line}
use mathlib.Core.Path.{refl}
use borrow.Author.Rules.{rules}
use mathlib.Core.Path.{ap}
use mathlib.Core.Bool.{not}
use Rattle.draw_chart.proofs.put_message.Goals as goal

pub of_sort-requires : goal.of_sort-requires
unfolding message_line
of_sort-requires c = search rules

pub returns-then-not-of_sort : goal.returns-then-not-of_sort
unfolding message_line
returns-then-not-of_sort c = puts_as _ (pick_no _ _ _ _ (flag_no _ _ c.of_sort.ensures (ap not c.if-not-of_sort.true)) refl) (puts_none _ _)

pub message_of-requires : goal.message_of-requires
unfolding message_line
message_of-requires c = search rules

pub place_of-requires : goal.place_of-requires
unfolding message_line
place_of-requires c = search rules

pub put_line-requires : goal.put_line-requires
unfolding message_line
put_line-requires c = search rules

pub returns : goal.returns
unfolding message_line
returns c = puts_as _ (pick_yes _ _ _ _ (flag_yes _ _ c.of_sort.ensures (ap not c.if-not-of_sort.false)) (rw (c.message_of.ensures, c.place_of.ensures))) c.put_line.ensures
