use Rattle.base_words.proofs.IterLaws.{iter_none, iter_more, iter_done}
use Rattle.step_tokens.proofs.changes.change_edges.Goals as goal

pub loop-j-init : goal.loop-j-init
loop-j-init c = iter_none _ _

pub loop-j-preserved : goal.loop-j-preserved
loop-j-preserved c = iter_more _ _ _ _ _ c.loop-j.invariant c.change_edge.ensures

pub returns : goal.returns
returns c = rw (← c.first_edge-f.ensures, ← c.touched_count-count.ensures) (iter_done _ _ _ _ _ c.loop-j-test.false c.loop-j.auto.j-end c.loop-j.invariant)
