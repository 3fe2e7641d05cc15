use Rattle.base_words.proofs.IterLaws.{iter_none, iter_more, iter_done}
use Rattle.text_rewrite.specs.InTable.{rewritten_in}
use Rattle.text_rewrite.proofs.rewrite.Goals as goal

pub loop-p-init : goal.loop-p-init
unfolding rewritten_in
loop-p-init c = iter_none _ _

pub loop-p-preserved : goal.loop-p-preserved
unfolding rewritten_in
loop-p-preserved c = iter_more _ _ _ _ _ c.loop-p.invariant c.rewrite_pool.ensures

pub returns : goal.returns
unfolding rewritten_in
returns c = rw (← c.pool_count-p-end.ensures) (iter_done _ _ _ _ _ c.loop-p-test.false c.loop-p.auto.p-end c.loop-p.invariant)
