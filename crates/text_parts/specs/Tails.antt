-- What a function of its own reads: the second half of a long chain of readers, or of a choice.
use Prim.Native.Char.{code}
use Rattle.std.specs.Prelude.{ℕ, false}
use Rattle.base_table.specs.Places.{exits_place, edge_place, condition_place}
use Rattle.text_readers.specs.Reading.{Reader, ◌then◌, sign}
use Rattle.text_terms.specs.Terms.{condition, edge}
use Rattle.text_parts.specs.declared.Series.{Series}
use Rattle.text_parts.specs.Parts.{items, series, assignment_list}

-- behind the mode of a task
abbrev pub guard_and_assignments : Reader
guard_and_assignments = sign (code ",") then condition false (condition_place 0) then sign (code ",") then series assignment_list

-- behind the message of a branch that receives
abbrev pub receiving_exit : ℕ → Reader
receiving_exit b = sign (code ",") then edge (edge_place exits_place b) then sign (code ")")

-- items up to the closing sign
abbrev pub items_to_close : Series → Reader
items_to_close s = items s then sign s.closer
