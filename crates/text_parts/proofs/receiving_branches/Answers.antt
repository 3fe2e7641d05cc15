use Rattle.text_parts.specs.Parts.{receiving_branches}
use Rattle.text_parts.proofs.ListLaws.{items_start, items_stop, items_end, items_go, items_full}
use Rattle.text_parts.proofs.receiving_branches.Goals as goal

pub loop-k-init : goal.loop-k-init
unfolding receiving_branches
loop-k-init c = items_start _ _ _ _ _ _ _ _

pub returns-in_err-q : goal.returns-in_err-q
unfolding receiving_branches
returns-in_err-q c = items_stop _ _ _ _ _ _ _ _ _ _ _ c.loop-k.invariant _ _ c.loop-k-test.true c.receiving.ensures _ _ c.in_err-q.was c.from_residual.ensures.1

pub returns-in_default : goal.returns-in_default
unfolding receiving_branches
returns-in_default c = items_end _ _ _ _ _ _ _ _ _ _ _ c.loop-k.invariant _ _ c.loop-k-test.true c.receiving.ensures _ c.in_ok-q.was _ c.sign_at.ensures _ _ c.in_default.is c.counted.ensures

pub loop-k-preserved : goal.loop-k-preserved
unfolding receiving_branches
loop-k-preserved c = items_go _ _ _ _ _ _ _ _ _ _ _ c.loop-k.invariant _ _ c.loop-k-test.true c.receiving.ensures _ c.in_ok-q.was _ c.sign_at.ensures _ c.in-Ok.is

pub returns : goal.returns
unfolding receiving_branches
returns c = items_full _ _ _ _ _ _ _ _ _ _ _ c.loop-k.invariant _ _ c.loop-k-test.false c.starts_sign.ensures c.too_many.ensures
