use Rattle.std.proofs.Common.{rules, refl, ◌+◌}
use Rattle.base_words.specs.Words.{at}
use Rattle.base_words.proofs.RangeLaws.{all_of_range}
use lib.Dec.{leb}
use Rattle.check_tally.specs.Tally.{once_in}
use Rattle.check_tally.proofs.once_in.Goals as goal

pub returns : goal.returns
unfolding once_in
returns c = all_of_range _ _ _ (λ k. leb (at c.args.s.now (c.args.from + (k + 1))) 1) _ c.all.ensures.ran refl (λ x q k. search rules) (λ x q k. search rules)
