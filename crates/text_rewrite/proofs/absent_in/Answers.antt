use Rattle.std.proofs.Common.{rules, refl}
use Rattle.base_words.proofs.RangeLaws.{all_of_range}
use Rattle.text_rewrite.specs.InTable.{absent_in}
use Rattle.text_rewrite.proofs.absent_in.Goals as goal

pub returns : goal.returns
unfolding absent_in
returns c = rw (← c.element_count.ensures) (all_of_range _ _ _ _ _ c.all.ensures.ran refl (λ x q k. search rules) (λ x q k. search rules))
