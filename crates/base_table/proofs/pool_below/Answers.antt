use Rattle.std.proofs.Common.{rules, ◌∙◌}
use Rattle.base_words.proofs.RangeLaws.{seek_of_range}
use Rattle.base_table.proofs.pool_below.Goals as goal

pub returns : goal.returns
returns c = c.unwrap_or.ensures ∙ seek_of_range _ _ _ _ _ c.find.ensures.ran (λ x q k. search rules) (λ x q k. search rules)
