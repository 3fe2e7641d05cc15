use Rattle.std.proofs.Common.{rules, refl}
use borrow.Author.Tests.{eq-eqb, ne_eqb}
use Rattle.base_words.proofs.PickLaws.{and_yes}
use Rattle.base_words.proofs.RangeLaws.{all_of_range}
use Rattle.step_expressions.specs.Suited.{suited}
use Rattle.step_expressions.proofs.templates.suits.Goals as goal

pub returns-then-w-g : goal.returns-then-w-g
unfolding suited
returns-then-w-g c = and_yes _ _ _ (eq-eqb _ _ c.if-w-g.true) (all_of_range _ _ _ _ _ c.all.ensures.ran refl (λ x q k. search rules) (λ x q k. search rules))

pub returns-else-w-g : goal.returns-else-w-g
unfolding suited
returns-else-w-g c = rw (ne_eqb _ _ c.if-w-g.false)
