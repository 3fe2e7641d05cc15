use mathlib.Core.Path.{◌≡◌}
use lib.ListN.{drop}
use Rattle.text_elements.specs.Elements.{parts_from}
use Rattle.text_elements.proofs.parts_from.Given as goal

abbrev pub invariant-loop-c : goal.invariant-loop-c
invariant-loop-c l = parts_from l.s (drop l.c-index l.codes) l.text l.at l.x ≡ parts_from l.first l.codes l.text l.start l.initial.x
