use Rattle.std.proofs.Common.{rules, refl}
use Rattle.base_words.proofs.RangeLaws.{all_of_range}
use Rattle.step_expressions.proofs.conditions.others_false.Goals as goal

pub returns : goal.returns
returns c = all_of_range _ _ _ _ _ c.all.ensures.ran refl (λ x q k. search rules) (λ x q k. search rules)
