use Rattle.draw_model.proofs.KeptLaws.{counted_more, counted_start, kept_done, kept_more, kept_start, one_at_most}
use Rattle.draw_model.specs.Content.{element_if, elements_of}
use borrow.Author.Rules.{rules}
use Rattle.draw_model.proofs.keep_elements.Goals as goal

pub loop-k-init : goal.loop-k-init
loop-k-init c = (search rules, counted_start _, kept_start _ _ _)

pub loop-k-preserved : goal.loop-k-preserved
unfolding element_if
loop-k-preserved c = (one_at_most _ _ _ _ _ c.loop-k.invariant.0 c.keep_next-count.ensures.value, counted_more _ _ _ _ c.loop-k.invariant.1 c.keep_next-count.ensures.value, kept_more _ _ _ _ _ _ _ c.loop-k.invariant.1 c.loop-k.invariant.2 c.keep_next-count.ensures.v_after)

pub returns : goal.returns
unfolding elements_of
returns c = kept_done _ _ _ _ _ _ c.loop-k-test.false c.loop-k.auto.k-end c.loop-k.invariant.2
