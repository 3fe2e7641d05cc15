use mathlib.Core.Path.{◌≡◌}
use Prim.Native.Nat.{◌+◌, ◌*◌, ◌≤◌}
use lib.ListN.{drop}
use Rattle.base_words.specs.Words.{greatest}
use Rattle.text_numerals.specs.Numerals.{value_from}
use Rattle.text_numerals.proofs.digits.Given as goal

abbrev pub invariant-loop-d : goal.invariant-loop-d
invariant-loop-d l = (l.v ≤ greatest * 10 + 9) × (value_from l.v (drop l.d-index l.word) ≡ value_from 0 l.word)
