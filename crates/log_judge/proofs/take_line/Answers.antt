use Rattle.log_judge.proofs.JudgeLaws.{post_taken, step_taken}
use Rattle.log_judge.proofs.take_line.Goals as goal

pub returns-then-e : goal.returns-then-e
returns-then-e c = post_taken _ _ _ _ _ c.entry_of-e.ensures _ c.if-e.true c.post_on.ensures

pub returns : goal.returns
returns c = step_taken _ _ _ _ _ c.entry_of-e.ensures _ _ c.if-e.false c.step_on-a.ensures c.same_line.ensures
