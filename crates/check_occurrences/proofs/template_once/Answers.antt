use Rattle.std.proofs.Common.{rules, refl, ◌∙◌}
use Rattle.base_words.proofs.RangeLaws.{all_of_range}
use Rattle.check_occurrences.proofs.OnceLaws.{template_by}
use Rattle.check_occurrences.proofs.template_once.Goals as goal

pub returns : goal.returns
returns c = all_of_range _ _ _ _ _ c.all.ensures.ran refl (λ x q k. search rules) (λ x q k. search rules) ∙ template_by _ _ _ c.message_length.ensures
