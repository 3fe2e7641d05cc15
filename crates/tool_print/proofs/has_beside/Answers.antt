use mathlib.Core.Path.{refl, ◌∙◌}
use borrow.Author.Tests.{eq-eqb, ne_eqb}
use Rattle.base_words.proofs.PickLaws.{or_yes, or_no}
use Rattle.tool_print.specs.Judged.{has_beside}
use Rattle.tool_print.proofs.has_beside.Goals as goal

pub returns-then-number-eq-NOT_A_LOG : goal.returns-then-number-eq-NOT_A_LOG
unfolding has_beside
returns-then-number-eq-NOT_A_LOG c = eq-eqb _ _ c.if-number-eq-NOT_A_LOG.true ∙ or_yes _ _ (eq-eqb _ _ c.if-number-eq-NOT_A_LOG.true)

pub returns-else-number-eq-NOT_A_LOG : goal.returns-else-number-eq-NOT_A_LOG
unfolding has_beside
returns-else-number-eq-NOT_A_LOG c = or_no _ _ _ (ne_eqb _ _ c.if-number-eq-NOT_A_LOG.false) refl
