use Prim.Native.Char.{code}
use Rattle.base_words.specs.Counts.{fewest, branches}
use Rattle.base_table.specs.Places.{exits_place}
use Rattle.text_readers.specs.Reading.{starts_sign}
use Rattle.text_parts.specs.Parts.{receiving}
use Rattle.text_parts.proofs.ListLaws.{Rest}
use Rattle.text_parts.proofs.receiving_branches.Given as goal

abbrev pub invariant-loop-k : goal.invariant-loop-k
invariant-loop-k l = Rest receiving (starts_sign (code "(")) fewest exits_place branches l.text l.start l.initial.x l.k l.at l.x
