use Rattle.base_words.proofs.PickLaws.{flag_no}
use Rattle.base_words.proofs.PickLaws.{flag_yes}
use Rattle.base_words.proofs.PickLaws.{pick_no}
use Rattle.base_words.proofs.PickLaws.{pick_yes}
use Rattle.draw_chart.proofs.PutLaws.{puts_as}
use Rattle.draw_chart.proofs.PutLaws.{puts_none}
use Rattle.draw_map.specs.Map.{edge_line}
use mathlib.Core.Path.{refl}
use borrow.Author.Rules.{rules}
use mathlib.Core.Path.{ap}
use mathlib.Core.Bool.{not}
use Rattle.draw_chart.proofs.pools.put_edge.Goals as goal

pub is_of-requires : goal.is_of-requires
unfolding edge_line
is_of-requires c = search rules

pub returns-then-not-is_of : goal.returns-then-not-is_of
unfolding edge_line
returns-then-not-is_of c = puts_as _ (pick_no _ _ _ _ (flag_no _ _ c.is_of.ensures (ap not c.if-not-is_of.true)) refl) (puts_none _ _)

pub next_number-requires : goal.next_number-requires
unfolding edge_line
next_number-requires c = search rules

pub edge_of-requires : goal.edge_of-requires
unfolding edge_line
edge_of-requires c = search rules

pub place_of-requires : goal.place_of-requires
unfolding edge_line
place_of-requires c = search rules

pub put_line-requires : goal.put_line-requires
unfolding edge_line
put_line-requires c = search rules

pub returns : goal.returns
unfolding edge_line
returns c = puts_as _ (pick_yes _ _ _ _ (flag_yes _ _ c.is_of.ensures (ap not c.if-not-is_of.false)) (rw (c.next_number.ensures, c.edge_of.ensures, c.place_of.ensures))) c.put_line.ensures
