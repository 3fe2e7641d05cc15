use Rattle.text_parts.specs.Parts.{items}
use Rattle.text_parts.proofs.ListLaws.{items_start, items_stop, items_end, items_go, items_full}
use Rattle.text_parts.proofs.lists.items.Goals as goal

pub loop-k-init : goal.loop-k-init
unfolding items
loop-k-init c = items_start _ _ _ _ _ _ _ _

pub returns-in_err-q : goal.returns-in_err-q
unfolding items
returns-in_err-q c = items_stop _ _ _ _ _ _ _ _ _ _ _ c.loop-k.invariant _ _ c.loop-k-test.true c.item_of.ensures _ _ c.in_err-q.was c.from_residual.ensures.1

pub returns-in_default : goal.returns-in_default
unfolding items
returns-in_default c = items_end _ _ _ _ _ _ _ _ _ _ _ c.loop-k.invariant _ _ c.loop-k-test.true c.item_of.ensures _ c.in_ok-q.was _ c.sign_at.ensures _ _ c.in_default.is c.counted.ensures

pub loop-k-preserved : goal.loop-k-preserved
unfolding items
loop-k-preserved c = items_go _ _ _ _ _ _ _ _ _ _ _ c.loop-k.invariant _ _ c.loop-k-test.true c.item_of.ensures _ c.in_ok-q.was _ c.sign_at.ensures _ c.in-Ok.is

pub returns : goal.returns
unfolding items
returns c = items_full _ _ _ _ _ _ _ _ _ _ _ c.loop-k.invariant _ _ c.loop-k-test.false c.starts.ensures c.too_many.ensures
