use mathlib.Core.Path.{◌∙◌}
use Rattle.meaning.specs.Requirements.{has_rooms}
use Rattle.step_tokens.proofs.EdgeLaws.{exits_allow}
use Rattle.step_tokens.proofs.permission.has_rooms.Goals as goal

pub returns : goal.returns
unfolding has_rooms
returns c = rw c.exit_count.ensures at c.edges_allow.ensures ∙ exits_allow _ _ _ _
