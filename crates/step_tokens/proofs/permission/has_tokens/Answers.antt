use mathlib.Core.Path.{◌∙◌}
use Rattle.meaning.specs.Requirements.{has_tokens}
use Rattle.step_tokens.proofs.EdgeLaws.{entries_allow}
use Rattle.step_tokens.proofs.permission.has_tokens.Goals as goal

pub returns : goal.returns
unfolding has_tokens
returns c = rw c.entry_count.ensures at c.edges_allow.ensures ∙ entries_allow _ _ _ _
