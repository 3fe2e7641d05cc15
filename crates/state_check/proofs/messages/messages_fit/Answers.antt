use Rattle.std.proofs.Common.{rules, refl}
use Rattle.base_words.proofs.RangeLaws.{all_of_range}
use Rattle.state_fits.specs.Fits.{slot_fits}
use Rattle.state_check.proofs.messages.messages_fit.Goals as goal

pub returns : goal.returns
returns c = all_of_range _ _ _ (slot_fits c.args.q.now c.args.m) _ c.all.ensures.ran refl (λ x q k. search rules) (λ x q k. search rules)
