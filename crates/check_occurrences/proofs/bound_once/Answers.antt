use Rattle.std.proofs.Common.{rules, refl}
use Rattle.base_words.proofs.RangeLaws.{all_of_range}
use Rattle.check_occurrences.specs.Occurrences.{template_once, bound_once}
use Rattle.check_occurrences.proofs.bound_once.Goals as goal

pub returns : goal.returns
unfolding bound_once
returns c = rw c.received_count.ensures at (all_of_range _ _ _ (template_once c.args.el.now) _ c.all.ensures.ran refl (λ x q k. search rules) (λ x q k. search rules))
