use Rattle.std.proofs.Common.{rules, refl, ◌+◌, eqb}
use borrow.Author.Tests.{tests}
use Rattle.base_words.specs.Words.{at}
use Rattle.base_words.proofs.RangeLaws.{all_of_range}
use Rattle.step_queues.proofs.words_are.Goals as goal

pub returns : goal.returns
returns c = all_of_range _ _ _ (λ j. eqb (at c.args.q.now (c.args.i + j)) (at c.args.v.now j)) _ c.all.ensures.ran (rw c.wide.ensures refl) (λ x q k. search (rules, tests)) (λ x q k. search (rules, tests))
