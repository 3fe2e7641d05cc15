use mathlib.Core.Path.{refl}
use Rattle.step_effects.proofs.CopyLaws.{committed}
use Rattle.step_effects.proofs.copies.commit.Goals as goal

pub returns : goal.returns
returns c = committed c.args.s.now c.args.h.now _ _ _ _ _ _ _ c.args.made refl c.move_words.ensures c.move_words-2.ensures c.wide.ensures c.put.ensures
