use Rattle.draw_model.proofs.KeptLaws.{kept_none, kept_one, none_counted, one_counted}
use Rattle.draw_model.specs.Content.{pool_if}
use Rattle.base_words.proofs.PickLaws.{flag_no, flag_yes}
use borrow.Author.Rules.{rules}
use mathlib.Core.Path.{ap}
use mathlib.Core.Bool.{not}
use Rattle.draw_model.proofs.keep_next_pool.Goals as goal

pub is_pool-requires : goal.is_pool-requires
unfolding pool_if
is_pool-requires c = search rules

pub returns-then-not-is_pool : goal.returns-then-not-is_pool
unfolding pool_if
returns-then-not-is_pool c = record { value = none_counted _ _ _ (flag_no _ _ c.is_pool.ensures (ap not c.if-not-is_pool.true)); v_after = kept_none _ _ _ _ _ (flag_no _ _ c.is_pool.ensures (ap not c.if-not-is_pool.true)) }

pub keep_pool-requires : goal.keep_pool-requires
unfolding pool_if
keep_pool-requires c = search rules

pub returns : goal.returns
unfolding pool_if
returns c = record { value = one_counted _ _ _ (flag_yes _ _ c.is_pool.ensures (ap not c.if-not-is_pool.false)); v_after = kept_one _ _ _ _ _ _ (flag_yes _ _ c.is_pool.ensures (ap not c.if-not-is_pool.false)) c.keep_pool.ensures }
