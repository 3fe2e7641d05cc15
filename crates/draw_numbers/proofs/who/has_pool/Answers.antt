use Rattle.std.proofs.Common.{rules, refl}
use Rattle.draw_numbers.proofs.FoundLaws.{any_of_range}
use Rattle.draw_numbers.specs.Who.{has_pool}
use Rattle.draw_numbers.proofs.who.has_pool.Goals as goal

pub returns : goal.returns
unfolding has_pool
returns c = any_of_range _ _ _ _ _ c.any.ensures.ran refl (λ x q k. search rules) (λ x q k. search rules)
