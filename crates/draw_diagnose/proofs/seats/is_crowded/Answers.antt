use Rattle.draw_diagnose.proofs.Laws.{crowded_edges}
use Rattle.draw_diagnose.proofs.Laws.{crowded_elements}
use Rattle.draw_diagnose.proofs.seats.is_crowded.Goals as goal

pub returns-then-elements-ends : goal.returns-then-elements-ends
returns-then-elements-ends c = crowded_elements _ _ _ _ _ c.count_of-elements.ensures c.count_kind-ends.ensures c.if-elements-ends.true

pub returns : goal.returns
returns c = crowded_edges _ _ _ _ _ c.count_of-elements.ensures c.count_kind-ends.ensures _ _ c.if-elements-ends.false c.count_of-edges.ensures c.count_kind-starts.ensures
