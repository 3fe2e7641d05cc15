use Rattle.std.proofs.Common.{rules, ◌∙◌}
use Rattle.base_words.proofs.RangeLaws.{seek_of_range}
use Rattle.text_rewrite.specs.InTable.{first_in}
use Rattle.text_rewrite.proofs.first_in.Goals as goal

pub returns : goal.returns
unfolding first_in
returns c = rw (← c.element_count-n.ensures) (c.unwrap_or.ensures ∙ seek_of_range _ _ _ _ _ c.find.ensures.ran (λ x q k. search rules) (λ x q k. search rules))
