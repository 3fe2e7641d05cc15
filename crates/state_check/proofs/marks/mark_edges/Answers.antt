use Rattle.state_check.proofs.MarkLaws.{edged_none, edged_more, edged_done}
use Rattle.state_check.proofs.marks.mark_edges.Goals as goal

pub loop-j-init : goal.loop-j-init
loop-j-init c = edged_none _ c.args.el.now c.args.list

pub loop-j-preserved : goal.loop-j-preserved
loop-j-preserved c = edged_more _ c.args.el.now c.args.list _ _ _ _ c.loop-j.invariant c.edge_at.ensures c.put_tokens.ensures

pub returns : goal.returns
returns c = edged_done c.args.w.now c.args.el.now c.args.list _ _ _ c.loop-j-test.false c.loop-j.auto.j-end c.loop-j.invariant
