use Rattle.base_words.proofs.PickLaws.{flag_no}
use Rattle.base_words.proofs.PickLaws.{flag_yes}
use Rattle.base_words.proofs.PickLaws.{pick_no}
use Rattle.base_words.proofs.PickLaws.{pick_yes}
use Rattle.draw_chart.proofs.PutLaws.{puts_as}
use Rattle.draw_chart.proofs.PutLaws.{puts_none}
use Rattle.draw_map.specs.Map.{pool_lines}
use mathlib.Core.Path.{refl}
use borrow.Author.Rules.{rules}
use mathlib.Core.Path.{ap}
use mathlib.Core.Bool.{not}
use Rattle.draw_chart.proofs.put_pool_lines.Goals as goal

pub is_pool-requires : goal.is_pool-requires
unfolding pool_lines
is_pool-requires c = search rules

pub returns-then-not-is_pool : goal.returns-then-not-is_pool
unfolding pool_lines
returns-then-not-is_pool c = puts_as _ (pick_no _ _ _ _ (flag_no _ _ c.is_pool.ensures (ap not c.if-not-is_pool.true)) refl) (puts_none _ _)

pub count_pools-i-requires : goal.count_pools-i-requires
unfolding pool_lines
count_pools-i-requires c = search rules

pub process_of-p-requires : goal.process_of-p-requires
unfolding pool_lines
process_of-p-requires c = search rules

pub put_pool-requires : goal.put_pool-requires
unfolding pool_lines
put_pool-requires c = search rules

pub returns : goal.returns
unfolding pool_lines
returns c = puts_as _ (pick_yes _ _ _ _ (flag_yes _ _ c.is_pool.ensures (ap not c.if-not-is_pool.false)) (rw (c.count_pools-i.ensures, c.process_of-p.ensures))) c.put_pool.ensures
