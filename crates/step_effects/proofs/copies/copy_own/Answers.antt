use mathlib.Core.Path.{refl}
use borrow.Author.Tests.{eqb-true, eqb-false}
use Rattle.step_effects.proofs.copies.copy_own.Goals as goal

pub returns-then-m-eq-MAKES : goal.returns-then-m-eq-MAKES
returns-then-m-eq-MAKES c = (λ e. refl, λ e. absurd (eqb-false _ _ e c.if-m-eq-MAKES.true))

pub returns : goal.returns
returns c = (λ e. absurd (c.if-m-eq-MAKES.false (eqb-true _ _ e)), λ e. c.move_words.ensures)
