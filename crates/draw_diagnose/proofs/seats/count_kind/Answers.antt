use Rattle.std.proofs.Common.{rules}
use Rattle.base_words.proofs.RangeLaws.{sum_of_range}
use Rattle.draw_numbers.specs.Numbers.{count_before}
use Rattle.draw_diagnose.specs.Seats.{count_kind}
use Rattle.draw_diagnose.proofs.seats.count_kind.Goals as goal

pub returns : goal.returns
unfolding count_kind count_before
returns c = sum_of_range c.filter.result _ _ _ _ c.count.ensures.ran c.filter.ensures.source c.filter.ensures.closure (λ x b q k. search rules)
