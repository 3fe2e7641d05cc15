use Rattle.std.proofs.Common.{rules}
use Rattle.base_words.proofs.RangeLaws.{sum_of_range}
use Rattle.draw_numbers.specs.Numbers.{count_before}
use Rattle.draw_numbers.proofs.numbers.count_pools.Goals as goal

pub returns : goal.returns
unfolding count_before
returns c = sum_of_range c.filter.result _ _ _ _ c.count.ensures.ran c.filter.ensures.source c.filter.ensures.closure (λ x b q k. search rules)
