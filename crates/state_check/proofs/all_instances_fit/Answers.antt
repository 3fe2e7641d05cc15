use Rattle.std.proofs.Common.{rules, refl}
use Rattle.base_words.proofs.RangeLaws.{all_of_range}
use Rattle.state_fits.specs.Fits.{instances_fit}
use Rattle.state_check.proofs.all_instances_fit.Goals as goal

pub returns : goal.returns
returns c = all_of_range _ _ _ (instances_fit c.args.t.now c.args.s.now) _ c.all.ensures.ran refl (λ x q k. search rules) (λ x q k. search rules)
