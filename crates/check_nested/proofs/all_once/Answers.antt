use Rattle.std.proofs.Common.{rules, refl}
use Rattle.base_words.proofs.RangeLaws.{all_of_range}
use borrow.Author.Tests.{tests}
use lib.Dec.{eqb}
use Rattle.base_words.specs.Words.{at}
use Rattle.check_nested.proofs.all_once.Goals as goal

pub returns : goal.returns
returns c = all_of_range _ _ _ (λ k. eqb (at c.args.m.now k) 1) _ c.all.ensures.ran refl (λ x q k. search (rules, tests)) (λ x q k. search (rules, tests))
