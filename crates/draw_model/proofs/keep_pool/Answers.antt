use Rattle.draw_model.proofs.KeptLaws.{pool_kept}
use Rattle.draw_model.specs.Content.{pool_drawn}
use Rattle.base_words.specs.Words.{at}
use mathlib.Core.Path.{refl}
use borrow.Author.Rules.{rules}
use Rattle.draw_model.proofs.keep_pool.Goals as goal

pub process_of-requires : goal.process_of-requires
unfolding pool_drawn
process_of-requires c = search rules

pub keep_all-requires : goal.keep_all-requires
unfolding pool_drawn
keep_all-requires c = search rules

pub number_of-number-requires : goal.number_of-number-requires
unfolding pool_drawn
number_of-number-requires c = search rules

pub limit_of-limit-requires : goal.limit_of-limit-requires
unfolding pool_drawn
limit_of-limit-requires c = search rules

pub keep_counted_head-requires : goal.keep_counted_head-requires
unfolding pool_drawn
keep_counted_head-requires c = search rules

pub returns : goal.returns
unfolding pool_drawn
returns c = pool_kept _ _ _ _ _ _ _ _ _ _ c.number_of-number.ensures c.limit_of-limit.ensures refl (rw c.process_of.ensures at c.keep_all.ensures.s_after) (rw c.process_of.ensures at c.keep_all.ensures.v_after) c.keep_counted_head.ensures
