use Rattle.step_history.proofs.CodeLaws.{posted_refused, posted_some}
use mathlib.Core.Path.{◌∙◌}
use Rattle.step_history.proofs.moved_by_post.Goals as goal

pub returns-then-number-ne-ACCEPTED : goal.returns-then-number-ne-ACCEPTED
returns-then-number-ne-ACCEPTED c = c.nothing_moved.ensures ∙ posted_refused _ _ _ c.if-number-ne-ACCEPTED.true

pub returns : goal.returns
returns c = posted_some _ _ _ c.if-number-ne-ACCEPTED.false
