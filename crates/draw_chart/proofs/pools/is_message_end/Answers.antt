use Rattle.draw_map.specs.Map.{is_message_end}
use Rattle.draw_links.proofs.TestLaws.{and_told}
use Rattle.base_words.proofs.PickLaws.{and_yes, eqb_same, flag_is}
use borrow.Author.Rules.{rules}
use Rattle.draw_chart.proofs.pools.is_message_end.Goals as goal

pub is_of_kind-requires : goal.is_of_kind-requires
unfolding is_message_end
is_of_kind-requires c = search rules

pub within_of-requires : goal.within_of-requires
unfolding is_message_end
within_of-requires c = search rules

pub returns-then-is_of_kind : goal.returns-then-is_of_kind
unfolding is_message_end
returns-then-is_of_kind c = and_yes _ _ _ (flag_is _ _ _ c.is_of_kind.ensures c.if-is_of_kind.true) (eqb_same _ _ _ c.within_of.ensures)

pub returns-else-is_of_kind : goal.returns-else-is_of_kind
unfolding is_message_end
returns-else-is_of_kind c = and_told _ _ _ c.is_of_kind.ensures c.if-is_of_kind.false
