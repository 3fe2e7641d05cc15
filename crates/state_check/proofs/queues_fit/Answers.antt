use Rattle.std.proofs.Common.{rules, refl}
use Rattle.base_words.proofs.RangeLaws.{all_of_range}
use Rattle.state_fits.specs.Fits.{queue_fits}
use Rattle.state_check.proofs.queues_fit.Goals as goal

pub returns : goal.returns
returns c = all_of_range _ _ _ (queue_fits c.args.q.now) _ c.all.ensures.ran refl (λ x q k. search rules) (λ x q k. search rules)
