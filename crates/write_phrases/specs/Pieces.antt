-- Pieces of the texts in Shown, each written by a function of its own.
use Prim.Native.Char.{code}
use Rattle.std.specs.Prelude.{ℕ, Bool, List, ◌∷◌, ◌++◌}
use Rattle.base_words.specs.Blocks.{Bytes, Element}
use Rattle.base_words.specs.Pick.{if◌then◌or_else◌}
use Rattle.base_words.specs.Words.{at}
use Rattle.base_table.specs.Places.{edge_place, exits_place}
use Rattle.base_table.specs.Table.{exit_at, condition_at, message_length, item_at, assignment_count, assignment_at}
use Rattle.write_decimals.specs.Decimals.{shown}
use Rattle.write_shown.specs.Shown.{commas, enclosed_by, shown_item, shown_condition, shown_message, shown_guarded, shown_receiving, shown_assignment, shown_assignments}

-- what stands between the signs of a tuple, of the list of edges at a place, of assignments
abbrev pub items : Element → ℕ → Bytes
items el b = commas (λ j. shown_item (item_at el b j)) (message_length el b)

abbrev pub edges : Element → ℕ → Bytes
edges el list = commas (λ j. shown (at el (edge_place list j))) (at el list)

abbrev pub assigned : Element → Bytes
assigned el = commas (λ j. shown_assignment (assignment_at el j)) (assignment_count el)

-- the list of edges at a place
abbrev pub edge_list : Element → ℕ → Bytes
edge_list el list = enclosed_by (code "{") (code "}") (edges el list)

-- a branch that receives or has a condition, and all of them
unfoldable pub shown_branch : Bool → Element → ℕ → Bytes
shown_branch receives el b = if receives then shown_receiving el b or_else shown_guarded el b

abbrev pub branches : Bool → Element → Bytes
branches receives el = commas (shown_branch receives el) (at el exits_place)

-- what stands between the signs of a branch: `f,C` and `m:T,f`
abbrev pub choice : Element → ℕ → Bytes
choice el b = shown (exit_at el b) ++ (code "," ∷ shown_condition (condition_at el b))

abbrev pub event : Element → ℕ → Bytes
event el b = shown_message el b ++ (code "," ∷ shown (exit_at el b))

-- a task's `C,A`
abbrev pub task_guard : Element → Bytes
task_guard el = shown_condition (condition_at el 0) ++ (code "," ∷ shown_assignments el)
