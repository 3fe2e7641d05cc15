use Rattle.std.proofs.Common.{rules, refl}
use Rattle.base_words.proofs.RangeLaws.{all_of_range}
use borrow.Author.Tests.{tests}
use lib.Dec.{eqb}
use Rattle.base_words.specs.Words.{at}
use Rattle.check_nesting.specs.Deciding.{same_edges}
use Rattle.check_nested.proofs.blocks.same_edges.Goals as goal

pub returns : goal.returns
unfolding same_edges
returns c = all_of_range _ _ _ (λ f. eqb (at c.args.s.now f) (at c.args.e.now f)) _ c.all.ensures.ran refl (λ x q k. search (rules, tests)) (λ x q k. search (rules, tests))
