use Rattle.engine.proofs.JudgeLaws.{resume_bad, resume_lawful, resume_refused}
use Rattle.engine.proofs.resume.Goals as goal

pub returns-then-number-ne-ACCEPTED : goal.returns-then-number-ne-ACCEPTED
returns-then-number-ne-ACCEPTED c = resume_bad _ _ _ _ c.lent_number-number.ensures.0 c.if-number-ne-ACCEPTED.true _ c.unjudged.ensures

pub returns-then-r-eq-ACCEPTED : goal.returns-then-r-eq-ACCEPTED
returns-then-r-eq-ACCEPTED c = resume_lawful _ _ _ _ c.lent_number-number.ensures.0 c.if-number-ne-ACCEPTED.false (c.lent_number-number.ensures.1 c.if-number-ne-ACCEPTED.false) _ _ c.judge_on-r.ensures.0 c.judge_on-r.ensures.1 c.if-r-eq-ACCEPTED.true

pub returns-else-r-eq-ACCEPTED : goal.returns-else-r-eq-ACCEPTED
returns-else-r-eq-ACCEPTED c = resume_refused _ _ _ _ c.lent_number-number.ensures.0 c.if-number-ne-ACCEPTED.false (c.lent_number-number.ensures.1 c.if-number-ne-ACCEPTED.false) _ _ c.judge_on-r.ensures.0 c.judge_on-r.ensures.1 c.if-r-eq-ACCEPTED.false
