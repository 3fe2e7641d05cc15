use Rattle.base_words.proofs.PickLaws.{and_yes}
use Rattle.base_words.proofs.PickLaws.{flag_is}
use Rattle.draw_diagnose.specs.Seats.{joins_own}
use Rattle.draw_links.proofs.TestLaws.{and_told}
use borrow.Author.Rules.{rules}
use Rattle.draw_diagnose.proofs.seats.joins_own.Goals as goal

pub is_node_at-requires : goal.is_node_at-requires
unfolding joins_own
is_node_at-requires c = search rules

pub is_node_at-requires-then-is_node_at : goal.is_node_at-requires-then-is_node_at
unfolding joins_own
is_node_at-requires-then-is_node_at c = search rules

pub within_of-requires : goal.within_of-requires
unfolding joins_own
within_of-requires c = search rules

pub within_of-requires-then-is_node_at-2 : goal.within_of-requires-then-is_node_at-2
unfolding joins_own
within_of-requires-then-is_node_at-2 c = search rules

pub returns-then-is_node_at-2 : goal.returns-then-is_node_at-2
unfolding joins_own
returns-then-is_node_at-2 c = and_yes _ _ _ (flag_is _ _ _ c.is_node_at.ensures c.if-is_node_at.true) (and_yes _ _ _ (flag_is _ _ _ c.is_node_at-then-is_node_at.ensures c.if-is_node_at-2.true) (rw (c.within_of.ensures, c.within_of-then-is_node_at-2.ensures)))

pub returns-else-is_node_at-2 : goal.returns-else-is_node_at-2
unfolding joins_own
returns-else-is_node_at-2 c = and_yes _ _ _ (flag_is _ _ _ c.is_node_at.ensures c.if-is_node_at.true) (and_told _ _ _ c.is_node_at-then-is_node_at.ensures c.if-is_node_at-2.false)

pub returns-else-is_node_at : goal.returns-else-is_node_at
unfolding joins_own
returns-else-is_node_at c = and_told _ _ _ c.is_node_at.ensures c.if-is_node_at.false
