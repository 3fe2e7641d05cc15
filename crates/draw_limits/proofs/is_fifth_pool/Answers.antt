use Rattle.draw_limits.specs.Excess.{is_fifth_pool}
use Rattle.draw_links.proofs.TestLaws.{and_told}
use Rattle.base_words.proofs.PickLaws.{and_yes, flag_is}
use lib.Dec.{leb}
use mathlib.Core.Path.{ap}
use borrow.Author.Rules.{rules}
use Rattle.draw_limits.proofs.is_fifth_pool.Goals as goal

pub is_pool-requires : goal.is_pool-requires
unfolding is_fifth_pool
is_pool-requires c = search rules

pub count_pools-requires : goal.count_pools-requires
unfolding is_fifth_pool
count_pools-requires c = search rules

pub returns-then-is_pool : goal.returns-then-is_pool
unfolding is_fifth_pool
returns-then-is_pool c = and_yes _ _ _ (flag_is _ _ _ c.is_pool.ensures c.if-is_pool.true) (ap (leb 4) c.count_pools.ensures)

pub returns-else-is_pool : goal.returns-else-is_pool
unfolding is_fifth_pool
returns-else-is_pool c = and_told _ _ _ c.is_pool.ensures c.if-is_pool.false
