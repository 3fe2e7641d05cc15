use Rattle.step_effects.proofs.CopyLaws.{sees}
use Rattle.step_effects.proofs.copies.copy_before.Goals as goal

pub returns : goal.returns
returns c = sees c.args.s.now c.args.m c.args.p c.args.i _ _ c.copy_own.ensures.0 c.copy_own.ensures.1 c.move_words.ensures
