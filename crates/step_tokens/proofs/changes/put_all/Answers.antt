use mathlib.Core.Path.{◌∙◌}
use Rattle.meaning.specs.Changes.{puts}
use Rattle.step_tokens.proofs.EdgeLaws.{exits_change}
use Rattle.step_tokens.proofs.changes.put_all.Goals as goal

pub returns : goal.returns
unfolding puts
returns c = rw c.exit_count.ensures at c.change_edges.ensures ∙ exits_change _ _ _ _
