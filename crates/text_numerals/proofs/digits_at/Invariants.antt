use mathlib.Core.Path.{◌≡◌}
use lib.ListN.{drop}
use Rattle.text_numerals.specs.Numerals.{digits_from}
use Rattle.text_numerals.proofs.digits_at.Given as goal

abbrev pub invariant-loop-i : goal.invariant-loop-i
invariant-loop-i l = digits_from l.v (drop l.i l.text) l.i ≡ digits_from 0 (drop l.from l.text) l.from
