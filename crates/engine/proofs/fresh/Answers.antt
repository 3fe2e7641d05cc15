use mathlib.Core.Path.{◌∙◌, sym}
use borrow.Author.Tests.{eq-eqb, ne_eqb}
use Rattle.base_words.proofs.PickLaws.{pick_yes, pick_no}
use Rattle.engine.specs.Engine.{freshened}
use Rattle.engine.proofs.fresh.Goals as goal

pub returns-then-number-ne-ACCEPTED : goal.returns-then-number-ne-ACCEPTED
unfolding freshened
returns-then-number-ne-ACCEPTED c = pick_no _ _ _ _ (ne_eqb _ _ (λ d. c.if-number-ne-ACCEPTED.true (c.asked_number-number.ensures ∙ d))) (rw c.asked_number-number.ensures)

pub returns : goal.returns
unfolding freshened
returns c = pick_yes _ _ _ _ (eq-eqb _ _ (sym c.asked_number-number.ensures ∙ c.if-number-ne-ACCEPTED.false)) (rw c.begin.ensures)
