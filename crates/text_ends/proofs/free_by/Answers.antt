use Rattle.std.proofs.Common.{rules}
use Rattle.base_words.proofs.RangeLaws.{sum_of_range}
use Rattle.text_ends.specs.Room.{free_by}
use Rattle.text_ends.proofs.free_by.Goals as goal

pub returns : goal.returns
unfolding free_by
returns c = sum_of_range c.filter.result _ _ _ _ c.count.ensures.ran c.filter.ensures.source c.filter.ensures.closure (λ x b q k. search rules)
