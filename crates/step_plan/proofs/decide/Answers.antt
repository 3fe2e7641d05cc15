use Rattle.step_plan.proofs.PlanLaws.{decided_early, decided_late, decided_whole}
use Rattle.step_plan.proofs.decide.Goals as goal

pub returns-then-early-ne0 : goal.returns-then-early-ne0
returns-then-early-ne0 c = decided_early _ _ c.prepare-plan.result _ c.prepare-plan.ensures _ c.if-early-ne0.true c.refused_plan.ensures

pub returns-then-last-ne0 : goal.returns-then-last-ne0
returns-then-last-ne0 c = decided_late _ _ c.prepare-plan.result _ c.prepare-plan.ensures c.if-early-ne0.false c.number_after-last.result (rw c.is_below_limit-below.ensures at c.number_after-last.ensures) _ c.if-last-ne0.true c.refused_plan-then-last-ne0.ensures

pub returns : goal.returns
returns c = decided_whole _ _ c.prepare-plan.result _ c.prepare-plan.ensures c.if-early-ne0.false c.number_after-last.result (rw c.is_below_limit-below.ensures at c.number_after-last.ensures) _ c.if-last-ne0.false c.change_last.ensures
