use mathlib.Core.Path.{◌≡◌}
use lib.ListN.{length}
use Rattle.draw_conditions.specs.Saying.{said}
use Rattle.draw_conditions.specs.Words.{behind}
use Rattle.draw_conditions.proofs.spelled.behind.Given as goal

abbrev pub invariant-loop-v : goal.invariant-loop-v
invariant-loop-v l = behind l.class (said l.text l.at) ≡ behind l.class (said l.text l.initial.at)

abbrev pub decreases-loop-v : goal.decreases-loop-v
decreases-loop-v l = length (said l.text l.at)
