use mathlib.Core.Path.{refl}
use borrow.Author.Tests.{not-true, not-false}
use Rattle.step_plan.proofs.PlanLaws.{prepared_early, prepared_undefined, prepared_whole}
use mathlib.Core.Path.{ap}
use mathlib.Core.Bool.{not}
use Rattle.step_plan.proofs.prepare.Goals as goal

pub returns-then-number-ne0 : goal.returns-then-number-ne0
returns-then-number-ne0 c = prepared_early _ c.number_before-number.result c.number_before-number.ensures _ _ c.if-number-ne0.true c.refused_plan.ensures refl

pub returns-then-not-is_defined : goal.returns-then-not-is_defined
returns-then-not-is_defined c = prepared_undefined _ c.number_before-number.result c.number_before-number.ensures c.if-number-ne0.false c.expect-template.result c.expect-template.ensures _ _ (not-true _ (ap not c.if-not-is_defined.true)) c.refused_plan-then-not-is_defined.ensures refl

pub returns : goal.returns
returns c = prepared_whole _ c.number_before-number.result c.number_before-number.ensures c.if-number-ne0.false c.expect-template.result c.expect-template.ensures _ _ (not-false _ (ap not c.if-not-is_defined.false)) c.match_fields.ensures
