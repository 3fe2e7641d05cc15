use Rattle.draw_links.proofs.TestLaws.{and_told}
use Rattle.draw_links.proofs.TargetLaws.{node_no_flow}
use Rattle.base_words.proofs.AllLaws.{and_left}
use Rattle.base_words.proofs.PickLaws.{and_yes, flag_is}
use Rattle.draw_links.proofs.is_node_named.Goals as goal

pub returns-then-is_node_in : goal.returns-then-is_node_in
returns-then-is_node_in c h = and_yes _ _ _ (flag_is _ _ _ c.is_node_in.ensures c.if-is_node_in.true) (c.has_noted_id.ensures (h (node_no_flow _ (and_left _ _ (flag_is _ _ _ c.is_node_in.ensures c.if-is_node_in.true)))))

pub returns-else-is_node_in : goal.returns-else-is_node_in
returns-else-is_node_in c h = and_told _ _ _ c.is_node_in.ensures c.if-is_node_in.false
