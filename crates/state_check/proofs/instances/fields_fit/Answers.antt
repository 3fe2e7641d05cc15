use Rattle.std.proofs.Common.{rules, refl}
use Rattle.base_words.proofs.RangeLaws.{all_of_range}
use Rattle.state_fits.specs.Fits.{field_fits, fields_fit}
use Rattle.state_check.proofs.instances.fields_fit.Goals as goal

pub returns : goal.returns
unfolding fields_fit
returns c = all_of_range _ _ _ (field_fits c.args.f.now) _ c.all.ensures.ran refl (λ x q k. search rules) (λ x q k. search rules)
