use mathlib.Core.Path.{◌≡◌}
use lib.ListN.{drop}
use Rattle.xml_characters.specs.References.{number_from}
use Rattle.xml_characters.proofs.references.number.Given as goal

abbrev pub invariant-loop-b : goal.invariant-loop-b
invariant-loop-b l = number_from l.hex l.v (drop l.b-index l.word) ≡ number_from l.hex 0 l.word
