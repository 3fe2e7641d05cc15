use mathlib.Core.Path.{◌∙◌}
use Rattle.meaning.specs.Changes.{taken}
use Rattle.step_tokens.proofs.EdgeLaws.{entries_change}
use Rattle.step_tokens.proofs.changes.take.Goals as goal

pub returns : goal.returns
unfolding taken
returns c = rw c.entry_count.ensures at c.change_edges.ensures ∙ entries_change _ _ _ _
