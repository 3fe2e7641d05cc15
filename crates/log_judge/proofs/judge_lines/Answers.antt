use mathlib.Core.Path.{◌∙◌}
use Rattle.log_judge.proofs.JudgeLaws.{judged_none, left_none, judged_start, left_start}
use Rattle.log_judge.proofs.judge_lines.Goals as goal

pub returns-in_default : goal.returns-in_default
returns-in_default c = (c.lawful.ensures ∙ judged_none _ _ _ _ c.start-m.ensures c.in_default.not-On, λ h. left_none _ _ _ _ c.start-m.ensures c.in_default.not-On)

pub returns : goal.returns
returns c = (c.judge_from.ensures.0 ∙ judged_start _ _ _ _ c.start-m.ensures _ c.in-On.is, λ h. c.judge_from.ensures.1 h ∙ left_start _ _ _ _ c.start-m.ensures _ c.in-On.is)
