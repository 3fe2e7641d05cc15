use Rattle.log_accounts.proofs.TellLaws.{post_took, step_took}
use Rattle.log_accounts.proofs.note_line.Goals as goal

pub returns-then-e : goal.returns-then-e
returns-then-e c = let p = post_took c.args.m c.args.g c.args.t.now c.args.z.now c.args.line.now c.post_on.new.z _ c.entry_of-e.ensures _ _ c.if-e.true c.post_on.ensures c.note_post.ensures.0 in (p.0, p.1, c.note_post.ensures.1, c.note_post.ensures.2, c.note_post.ensures.3)

pub returns : goal.returns
returns c = let p = step_took c.args.m c.args.g c.args.t.now c.args.z.now c.args.line.now c.step_on-a.new.z _ c.entry_of-e.ensures _ _ c.if-e.false c.step_on-a.ensures c.note_step.ensures.0 in (p.0, p.1, c.note_step.ensures.1, c.note_step.ensures.2, c.note_step.ensures.3)
