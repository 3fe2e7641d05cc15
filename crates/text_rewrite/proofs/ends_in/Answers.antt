use Rattle.std.proofs.Common.{rules}
use Rattle.base_words.proofs.RangeLaws.{sum_of_range}
use Rattle.text_rewrite.specs.InTable.{ends_in}
use Rattle.text_rewrite.proofs.ends_in.Goals as goal

pub returns : goal.returns
unfolding ends_in
returns c = rw (← c.element_count.ensures) (sum_of_range c.filter.result _ _ _ _ c.count.ensures.ran c.filter.ensures.source c.filter.ensures.closure (λ x b q k. search rules))
