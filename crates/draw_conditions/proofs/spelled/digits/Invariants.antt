use mathlib.Core.Path.{◌≡◌}
use lib.ListN.{length}
use Rattle.text_numerals.specs.Numerals.{value_from}
use Rattle.draw_conditions.specs.Saying.{said}
use Rattle.draw_conditions.specs.Words.{letters}
use Rattle.draw_conditions.proofs.spelled.digits.Given as goal

abbrev pub invariant-loop-x : goal.invariant-loop-x
invariant-loop-x l = value_from l.v (letters (said l.text l.at)) ≡ value_from 0 (letters (said l.text l.initial.at))

abbrev pub decreases-loop-x : goal.decreases-loop-x
decreases-loop-x l = length (letters (said l.text l.at))
