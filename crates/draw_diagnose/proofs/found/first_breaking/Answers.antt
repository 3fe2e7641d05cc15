use Rattle.std.proofs.Common.{rules, ◌∙◌}
use Rattle.base_words.proofs.RangeLaws.{seek_of_range}
use Rattle.draw_diagnose.specs.Rules.{first_breaking}
use Rattle.draw_diagnose.proofs.found.first_breaking.Goals as goal

pub returns : goal.returns
unfolding first_breaking
returns c = c.unwrap_or.ensures ∙ seek_of_range _ _ _ _ _ c.find.ensures.ran (λ x q k. search rules) (λ x q k. search rules)
