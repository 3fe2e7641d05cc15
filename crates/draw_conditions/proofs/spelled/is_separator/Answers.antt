use mathlib.Core.Bool.{not}
use mathlib.Core.Path.{◌∙◌, ap}
use borrow.Author.Tests.{eq-eqb}
use Rattle.draw_conditions.proofs.ByteLaws.{blank_return, blank_other}
use borrow.Author.Rules.{rules}
use Rattle.draw_conditions.proofs.spelled.is_separator.Goals as goal

pub returns-then-b-ne13 : goal.returns-then-b-ne13
returns-then-b-ne13 c = blank_other _ (search rules) c.if-b-ne13.true _ c.is_blank.ensures

pub returns-else-b-ne13 : goal.returns-else-b-ne13
returns-else-b-ne13 c = ap not (eq-eqb _ _ c.if-b-ne13.false) ∙ blank_return _ (search rules) c.if-b-ne13.false
