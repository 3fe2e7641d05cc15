use Rattle.std.proofs.Common.{rules, refl}
use Rattle.base_words.proofs.RangeLaws.{all_of_range}
use Rattle.base_state.specs.Instances.{instance_at}
use Rattle.state_fits.specs.Fits.{instance_fits}
use Rattle.state_check.proofs.instances.first_fit.Goals as goal

pub returns : goal.returns
returns c = all_of_range _ _ _ (λ i. instance_fits c.args.u.now (instance_at c.args.s.now c.args.p i)) _ c.all.ensures.ran refl (λ x q k. search rules) (λ x q k. search rules)
