use Rattle.std.proofs.Common.{rules, refl}
use Rattle.draw_numbers.proofs.FoundLaws.{any_of_range}
use Rattle.draw_faults.specs.Amiss.{is_taken}
use Rattle.draw_faults.proofs.ids.is_taken.Goals as goal

pub returns : goal.returns
unfolding is_taken
returns c = any_of_range _ _ _ _ _ c.any.ensures.ran refl (λ x q k. search rules) (λ x q k. search rules)
