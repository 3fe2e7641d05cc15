use mathlib.Core.Path.{◌∙◌, refl}
use borrow.Author.Tests.{leb-true}
use Rattle.log_judge.proofs.JudgeLaws.{put_read, same_as}
use Rattle.log_judge.proofs.same_line.Goals as goal

pub returns : goal.returns
returns c = same_as _ _ _ _ c.same.ensures (c.piece.ensures ∙ put_read c.put_step-end.ensures (leb-true _ _ refl) (leb-true _ _ refl))
