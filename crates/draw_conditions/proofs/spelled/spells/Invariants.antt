use mathlib.Core.Path.{◌≡◌}
use lib.ListN.{drop}
use Rattle.base_bytes.specs.Bytes.{same_bytes}
use Rattle.draw_conditions.specs.Saying.{said}
use Rattle.draw_conditions.specs.Words.{letters}
use Rattle.draw_conditions.proofs.spelled.spells.Given as goal

abbrev pub invariant-loop-b : goal.invariant-loop-b
invariant-loop-b l = same_bytes (letters (said l.text l.at)) (drop l.b-index l.word) ≡ same_bytes (letters (said l.text l.initial.at)) l.word
