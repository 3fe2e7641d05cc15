use Rattle.draw_numbers.proofs.FoundLaws.{or_on}
use Rattle.draw_limits.specs.Excess.{is_used}
use Rattle.base_bytes.proofs.OrLaws.{or_told}
use Rattle.base_words.specs.Words.{at}
use borrow.Author.Rules.{rules}
use Rattle.draw_limits.proofs.is_used.Goals as goal

pub source_of-requires : goal.source_of-requires
unfolding is_used
source_of-requires c = search rules

pub is_node_at-requires : goal.is_node_at-requires
unfolding is_used
is_node_at-requires c = search rules

pub target_of-requires : goal.target_of-requires
unfolding is_used
target_of-requires c = search rules

pub is_node_at-requires-else-is_node_at : goal.is_node_at-requires-else-is_node_at
unfolding is_used
is_node_at-requires-else-is_node_at c = search rules

pub returns-then-is_node_at : goal.returns-then-is_node_at
unfolding is_used
returns-then-is_node_at c = or_told _ _ _ (rw c.source_of.ensures at c.is_node_at.ensures) c.if-is_node_at.true

pub returns-else-is_node_at : goal.returns-else-is_node_at
unfolding is_used
returns-else-is_node_at c = or_on _ _ _ _ (rw c.source_of.ensures at c.is_node_at.ensures) c.if-is_node_at.false (rw c.target_of.ensures at c.is_node_at-else-is_node_at.ensures)
