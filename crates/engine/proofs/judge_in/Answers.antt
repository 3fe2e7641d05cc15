use mathlib.Core.Path.{◌∙◌}
use Rattle.engine.proofs.JudgeLaws.{judge_bad, judge_done, judge_left, not_judged}
use Rattle.engine.proofs.judge_in.Goals as goal

pub returns-then-number-ne-ACCEPTED : goal.returns-then-number-ne-ACCEPTED
returns-then-number-ne-ACCEPTED c = (c.unjudged.ensures ∙ judge_bad _ _ _ _ c.asked_number-number.ensures c.if-number-ne-ACCEPTED.true, not_judged _ _ c.if-number-ne-ACCEPTED.true c.unjudged.ensures)

pub returns : goal.returns
returns c = (
  judge_done _ _ _ _ c.asked_number-number.ensures _ _ c.if-number-ne-ACCEPTED.false c.begin.ensures c.judge_on.ensures.0,
  λ h. judge_left _ _ _ _ c.asked_number-number.ensures _ _ c.if-number-ne-ACCEPTED.false c.begin.ensures (c.judge_on.ensures.1 h),
)
