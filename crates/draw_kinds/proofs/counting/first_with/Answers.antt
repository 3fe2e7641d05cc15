use Rattle.std.proofs.Common.{rules, ◌∙◌}
use Rattle.base_words.proofs.RangeLaws.{seek_of_range}
use Rattle.draw_kinds.specs.Counting.{first_with}
use Rattle.draw_kinds.proofs.counting.first_with.Goals as goal

pub returns : goal.returns
unfolding first_with
returns c = c.unwrap_or.ensures ∙ seek_of_range _ _ _ _ _ c.find.ensures.ran (λ x q k. search rules) (λ x q k. search rules)
