use Rattle.draw_model.proofs.DrawnLaws.{iter_from}
use Rattle.draw_model.specs.Drawn.{element_drawn}
use Rattle.base_words.proofs.IterLaws.{iter_done, iter_more}
use Rattle.draw_model.proofs.element.element_drawn.Goals as goal

pub loop-j-init : goal.loop-j-init
loop-j-init c = iter_from _ _ _ c.put_head.ensures

pub loop-j-preserved : goal.loop-j-preserved
loop-j-preserved c = iter_more _ _ _ _ _ c.loop-j.invariant c.put_flow.ensures

pub returns : goal.returns
unfolding element_drawn
returns c = iter_done _ _ _ _ _ c.loop-j-test.false c.loop-j.auto.j-end c.loop-j.invariant
