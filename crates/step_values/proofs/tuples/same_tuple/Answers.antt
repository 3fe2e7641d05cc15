use Rattle.std.proofs.Common.{rules, refl, eqb}
use borrow.Author.Tests.{eq-eqb, ne_eqb, tests}
use Rattle.base_words.specs.Words.{at}
use Rattle.base_words.proofs.PickLaws.{and_yes}
use Rattle.base_words.proofs.RangeLaws.{all_of_range}
use Rattle.meaning.specs.Tuples.{same_tuple}
use Rattle.step_values.proofs.tuples.same_tuple.Goals as goal

pub returns-then-g-h : goal.returns-then-g-h
unfolding same_tuple
returns-then-g-h c = and_yes _ _ _ (eq-eqb _ _ c.if-g-h.true) (all_of_range _ _ _ (λ j. eqb (at c.args.g.values j) (at c.args.h.values j)) _ c.all.ensures.ran (rw c.wide.ensures refl) (λ x q k. search (rules, tests)) (λ x q k. search (rules, tests)))

pub returns-else-g-h : goal.returns-else-g-h
unfolding same_tuple
returns-else-g-h c = rw (ne_eqb _ _ c.if-g-h.false)
