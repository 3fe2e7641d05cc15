use Rattle.base_words.proofs.IterLaws.{iter_none, iter_more, iter_done}
use Rattle.text_rewrite.specs.InTable.{pool_in}
use Rattle.text_rewrite.proofs.rewrite_pool.Goals as goal

pub loop-k-init : goal.loop-k-init
unfolding pool_in
loop-k-init c = iter_none _ _

pub loop-k-preserved : goal.loop-k-preserved
unfolding pool_in
loop-k-preserved c = iter_more _ _ _ _ _ c.loop-k.invariant c.treat.ensures

pub returns : goal.returns
unfolding pool_in
returns c = rw (← c.ends_in-k-end.ensures) (iter_done _ _ _ _ _ c.loop-k-test.false c.loop-k.auto._k-end c.loop-k.invariant)
