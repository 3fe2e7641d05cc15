use Rattle.state_check.proofs.CallLaws.{marks_none, marks_more, marks_done}
use Rattle.state_check.proofs.marks.mark_pool.Goals as goal

pub loop-e-init : goal.loop-e-init
loop-e-init c = marks_none c.args.t.now c.args.p _

pub loop-e-preserved : goal.loop-e-preserved
loop-e-preserved c = marks_more c.args.t.now c.args.p _ _ _ _ _ c.loop-e.invariant c.element_at.ensures c.mark_element.ensures

pub returns : goal.returns
returns c = rw (← c.element_count-e-end.ensures) (marks_done c.args.t.now c.args.p c.args.w.now _ _ _ c.loop-e-test.false c.loop-e.auto.e-end c.loop-e.invariant)
