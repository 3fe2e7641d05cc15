use Rattle.draw_links.proofs.NoteLaws.{end_meant, node_meant, process-meant}
use Rattle.draw_links.proofs.meant_noted.Goals as goal

pub returns-then-s-eq-SEQUENCE_FLOW : goal.returns-then-s-eq-SEQUENCE_FLOW
returns-then-s-eq-SEQUENCE_FLOW c h = node_meant _ _ _ _ _ _ _ c.sort_of-s.ensures _ c.if-s-eq-SEQUENCE_FLOW.true c.within_of.ensures (c.node_named.ensures h)

pub returns-then-s-eq-MESSAGE_FLOW : goal.returns-then-s-eq-MESSAGE_FLOW
returns-then-s-eq-MESSAGE_FLOW c h = end_meant _ _ _ _ _ _ _ c.sort_of-s.ensures c.if-s-eq-SEQUENCE_FLOW.false c.if-s-eq-MESSAGE_FLOW.true (c.end_named.ensures h)

pub returns-then-s-eq-PARTICIPANT : goal.returns-then-s-eq-PARTICIPANT
returns-then-s-eq-PARTICIPANT c h = process-meant _ _ _ _ _ _ _ c.sort_of-s.ensures c.if-s-eq-SEQUENCE_FLOW.false c.if-s-eq-MESSAGE_FLOW.false c.if-s-eq-PARTICIPANT.true (c.process_named.ensures h)

pub returns : goal.returns
returns c h = c.meant.ensures
