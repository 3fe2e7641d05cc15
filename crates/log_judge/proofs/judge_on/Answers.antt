use mathlib.Core.Path.{◌∙◌}
use native.Mathlib.Omega.{arith}
use Rattle.log_judge.proofs.JudgeLaws.{judged_log, judged_fault}
use Rattle.log_judge.proofs.judge_on.Goals as goal

pub returns-in-Ok : goal.returns-in-Ok
returns-in-Ok c = (c.judge_lines.ensures.0 ∙ judged_log _ _ _ _ c.scan-s.ensures _ c.in-Ok.is, c.judge_lines.ensures.1)

pub returns-in-Err : goal.returns-in-Err
returns-in-Err c = (judged_fault _ _ _ _ c.scan-s.ensures _ c.in-Err.is, λ h. absurd (omega (arith, h)))
