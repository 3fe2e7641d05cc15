use Rattle.draw_numbers.proofs.FoundLaws.{or_here, or_on}
use Rattle.draw_limits.specs.Excess.{is_beyond}
use Rattle.base_bytes.proofs.OrLaws.{or_told}
use borrow.Author.Rules.{rules}
use Rattle.draw_limits.proofs.is_beyond.Goals as goal

pub is_fifth_pool-requires : goal.is_fifth_pool-requires
unfolding is_beyond
is_fifth_pool-requires c = search rules

pub returns-then-is_fifth_pool : goal.returns-then-is_fifth_pool
unfolding is_beyond
returns-then-is_fifth_pool c = or_here _ _ _ c.is_fifth_pool.ensures c.if-is_fifth_pool.true

pub is_node_beyond-requires : goal.is_node_beyond-requires
unfolding is_beyond
is_node_beyond-requires c = search rules

pub returns-then-is_node_beyond : goal.returns-then-is_node_beyond
unfolding is_beyond
returns-then-is_node_beyond c = or_on _ _ _ _ c.is_fifth_pool.ensures c.if-is_fifth_pool.false (or_here _ _ _ c.is_node_beyond.ensures c.if-is_node_beyond.true)

pub is_flow_beyond-requires : goal.is_flow_beyond-requires
unfolding is_beyond
is_flow_beyond-requires c = search rules

pub returns-then-is_flow_beyond : goal.returns-then-is_flow_beyond
unfolding is_beyond
returns-then-is_flow_beyond c = or_on _ _ _ _ c.is_fifth_pool.ensures c.if-is_fifth_pool.false (or_on _ _ _ _ c.is_node_beyond.ensures c.if-is_node_beyond.false (or_here _ _ _ c.is_flow_beyond.ensures c.if-is_flow_beyond.true))

pub is_message_beyond-requires : goal.is_message_beyond-requires
unfolding is_beyond
is_message_beyond-requires c = search rules

pub returns-then-is_message_beyond : goal.returns-then-is_message_beyond
unfolding is_beyond
returns-then-is_message_beyond c = or_on _ _ _ _ c.is_fifth_pool.ensures c.if-is_fifth_pool.false (or_on _ _ _ _ c.is_node_beyond.ensures c.if-is_node_beyond.false (or_on _ _ _ _ c.is_flow_beyond.ensures c.if-is_flow_beyond.false (or_here _ _ _ c.is_message_beyond.ensures c.if-is_message_beyond.true)))

pub is_maximum_beyond-requires : goal.is_maximum_beyond-requires
unfolding is_beyond
is_maximum_beyond-requires c = search rules

pub is_condition_beyond-requires : goal.is_condition_beyond-requires
unfolding is_beyond
is_condition_beyond-requires c = search rules

pub returns-then-is_maximum_beyond : goal.returns-then-is_maximum_beyond
unfolding is_beyond
returns-then-is_maximum_beyond c = or_on _ _ _ _ c.is_fifth_pool.ensures c.if-is_fifth_pool.false (or_on _ _ _ _ c.is_node_beyond.ensures c.if-is_node_beyond.false (or_on _ _ _ _ c.is_flow_beyond.ensures c.if-is_flow_beyond.false (or_on _ _ _ _ c.is_message_beyond.ensures c.if-is_message_beyond.false (or_told _ _ _ c.is_maximum_beyond.ensures c.if-is_maximum_beyond.true))))

pub returns-else-is_maximum_beyond : goal.returns-else-is_maximum_beyond
unfolding is_beyond
returns-else-is_maximum_beyond c = or_on _ _ _ _ c.is_fifth_pool.ensures c.if-is_fifth_pool.false (or_on _ _ _ _ c.is_node_beyond.ensures c.if-is_node_beyond.false (or_on _ _ _ _ c.is_flow_beyond.ensures c.if-is_flow_beyond.false (or_on _ _ _ _ c.is_message_beyond.ensures c.if-is_message_beyond.false (or_on _ _ _ _ c.is_maximum_beyond.ensures c.if-is_maximum_beyond.false c.is_condition_beyond.ensures))))
