use Rattle.draw_model.proofs.KeptLaws.{counted_more, counted_start, kept_done, kept_more, kept_start, one_at_most}
use Rattle.draw_model.specs.Content.{content, pool_if}
use borrow.Author.Rules.{rules}
use Rattle.draw_model.proofs.keep_content.Goals as goal

pub loop-k-init : goal.loop-k-init
loop-k-init c = (search rules, counted_start _, kept_start _ _ _)

pub loop-k-preserved : goal.loop-k-preserved
unfolding pool_if
loop-k-preserved c = (one_at_most _ _ _ _ _ c.loop-k.invariant.0 c.keep_next_pool-i.ensures.value, counted_more _ _ _ _ c.loop-k.invariant.1 c.keep_next_pool-i.ensures.value, kept_more _ _ _ _ _ _ _ c.loop-k.invariant.1 c.loop-k.invariant.2 c.keep_next_pool-i.ensures.v_after)

pub returns : goal.returns
unfolding content
returns c = rw (← c.has_participants-owned.ensures) (kept_done _ _ _ _ _ _ c.loop-k-test.false c.loop-k.auto.k-end c.loop-k.invariant.2)
