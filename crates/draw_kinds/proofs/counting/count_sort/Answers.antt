use Rattle.std.proofs.Common.{rules}
use Rattle.base_words.proofs.RangeLaws.{sum_of_range}
use Rattle.draw_kinds.specs.Counting.{count_sort}
use Rattle.draw_kinds.proofs.counting.count_sort.Goals as goal

pub returns : goal.returns
unfolding count_sort
returns c = sum_of_range c.filter.result _ _ _ _ c.count.ensures.ran c.filter.ensures.source c.filter.ensures.closure (λ x b q k. search rules)
