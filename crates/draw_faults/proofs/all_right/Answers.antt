use Rattle.std.proofs.Common.{rules, refl}
use Rattle.draw_faults.proofs.OnceLaws.{all_in_range}
use Rattle.draw_faults.specs.Amiss.{is_right}
use Rattle.draw_faults.proofs.all_right.Goals as goal

pub returns : goal.returns
unfolding is_right
returns c p q r = all_in_range _ _ _ _ _ c.all.ensures.ran refl (λ x s k. (search rules, λ l. search (rules, p, q, r x l))) (λ x s k l. search (rules, p, q, r x l))
