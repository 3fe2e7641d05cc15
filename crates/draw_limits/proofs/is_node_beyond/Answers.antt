use Rattle.draw_numbers.proofs.FoundLaws.{or_here, or_on}
use Rattle.draw_limits.specs.Excess.{is_node_beyond}
use Rattle.base_bytes.proofs.OrLaws.{or_told}
use borrow.Author.Rules.{rules}
use Rattle.draw_limits.proofs.is_node_beyond.Goals as goal

pub is_one_too_many-requires : goal.is_one_too_many-requires
unfolding is_node_beyond
is_one_too_many-requires c = search rules

pub returns-then-is_one_too_many : goal.returns-then-is_one_too_many
unfolding is_node_beyond
returns-then-is_one_too_many c = or_here _ _ _ c.is_one_too_many.ensures c.if-is_one_too_many.true

pub is_one_too_many-requires-2 : goal.is_one_too_many-requires-2
unfolding is_node_beyond
is_one_too_many-requires-2 c = search rules

pub is_start_beyond-requires : goal.is_start_beyond-requires
unfolding is_node_beyond
is_start_beyond-requires c = search rules

pub returns-then-is_one_too_many-2 : goal.returns-then-is_one_too_many-2
unfolding is_node_beyond
returns-then-is_one_too_many-2 c = or_on _ _ _ _ c.is_one_too_many.ensures c.if-is_one_too_many.false (or_told _ _ _ c.is_one_too_many-2.ensures c.if-is_one_too_many-2.true)

pub returns-else-is_one_too_many-2 : goal.returns-else-is_one_too_many-2
unfolding is_node_beyond
returns-else-is_one_too_many-2 c = or_on _ _ _ _ c.is_one_too_many.ensures c.if-is_one_too_many.false (or_on _ _ _ _ c.is_one_too_many-2.ensures c.if-is_one_too_many-2.false c.is_start_beyond.ensures)
