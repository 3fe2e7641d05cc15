use Rattle.std.proofs.Common.{rules, ◌∙◌}
use Rattle.base_words.proofs.RangeLaws.{seek_of_range}
use borrow.Author.Tests.{tests}
use mathlib.Core.Bool.{not}
use lib.Dec.{eqb}
use Rattle.base_words.specs.Words.{at}
use Rattle.check_nested.proofs.first_other.Goals as goal

pub returns : goal.returns
returns c = c.unwrap_or.ensures ∙ seek_of_range _ _ _ (λ k. not (eqb (at c.args.m.now k) 1)) _ c.find.ensures.ran (λ x q k. search (rules, tests)) (λ x q k. search (rules, tests))
