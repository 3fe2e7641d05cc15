use Rattle.draw_read.proofs.AnswerLaws.{settled_amiss, settled_right, too_many_lem}
use mathlib.Core.Bool.{false≢true}
use mathlib.Core.Path.{sym, ◌∙◌}
use Rattle.draw_read.proofs.settle.Goals as goal

pub returns-then-n-gt-ROOM : goal.returns-then-n-gt-ROOM
returns-then-n-gt-ROOM c = ((λ e. absurd (false≢true e)), λ e. too_many_lem _ _ _ c.if-n-gt-ROOM.true)

pub returns : goal.returns
returns c = ((λ e. settled_right _ _ _ _ _ c.links.ensures (sym c.settle_kinds.ensures.0 ∙ e) c.settle_kinds.ensures.1), λ e. settled_amiss _ _ _ _ c.links.ensures (sym c.settle_kinds.ensures.0 ∙ e))
