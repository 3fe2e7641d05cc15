use mathlib.Core.Path.{◌∙◌}
use borrow.Author.Tests.{ne_eqb}
use Rattle.draw_conditions.proofs.SpelledLaws.{lead_other, lead_zero}
use Rattle.draw_conditions.proofs.spelled.leading_zero.Goals as goal

pub returns-then-b-eq48 : goal.returns-then-b-eq48
returns-then-b-eq48 c = lead_zero _ _ c.if-b-eq48.true _ c.goes_on.ensures

pub returns-else-b-eq48 : goal.returns-else-b-eq48
returns-else-b-eq48 c = ne_eqb _ _ c.if-b-eq48.false ∙ lead_other _ _ c.if-b-eq48.false
