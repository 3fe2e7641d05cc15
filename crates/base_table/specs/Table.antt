-- What a table t says of its pools, and an element el of its parts. An element, a condition or an item is the words from its place on.
use Rattle.std.specs.Prelude.{ℕ, Bool, eqb, drop}
use Rattle.base_words.specs.Blocks.{Block, Table, Element}
use Rattle.base_words.specs.Pick.{if◌then◌or_else◌}
use Rattle.base_words.specs.Seek.{seek}
use Rattle.base_words.specs.Words.{at}
use Rattle.base_kinds.specs.Kinds.{kind_of, used}
use Rattle.base_table.specs.Places.{kind_place, task_place, mode_place, entries_place, exits_place, edge_place, condition_place, message_place, length_place, item_place, assignments_place, assignment_place, pools_place, pool_place, limit_place, elements_place, element_place}

abbrev pub pool_count : Table → ℕ
pool_count t = at t pools_place

abbrev pub element_count : Table → ℕ → ℕ
element_count t p = at t (elements_place p)

abbrev pub element_at : Table → ℕ → ℕ → Element
element_at t p e = drop (element_place p e) t

-- the place of the pool with a number; the pool count where there is none
unfoldable pub has_number : Table → ℕ → ℕ → Bool
has_number t number p = eqb (at t (pool_place p)) number

unfoldable pub pool_of : Table → ℕ → ℕ
pool_of t number = seek (has_number t number) (pool_count t)

-- "A `pool` makes at most 1 instance, a `miPool` at most n." (RULES: model)
unfoldable pub limit_of : Table → ℕ → ℕ
limit_of t p = if eqb (at t (limit_place p)) 0 then 1 or_else at t (limit_place p)

abbrev pub kind_in : Element → ℕ
kind_in el = at el kind_place

abbrev pub task_in : Element → ℕ
task_in el = at el task_place

abbrev pub mode_in : Element → ℕ
mode_in el = at el mode_place

-- entries and exits: how many there are is said by the table of kinds
unfoldable pub entry_count : Element → ℕ
entry_count el = used (kind_of (kind_in el)).entries (at el entries_place)

unfoldable pub exit_count : Element → ℕ
exit_count el = used (kind_of (kind_in el)).exits (at el exits_place)

abbrev pub entry_at : Element → ℕ → ℕ
entry_at el j = at el (edge_place entries_place j)

abbrev pub exit_at : Element → ℕ → ℕ
exit_at el j = at el (edge_place exits_place j)

-- the condition and the message of branch b
abbrev pub condition_at : Element → ℕ → Block
condition_at el b = drop (condition_place b) el

abbrev pub message_name : Element → ℕ → ℕ
message_name el b = at el (message_place b)

abbrev pub message_length : Element → ℕ → ℕ
message_length el b = at el (length_place b)

abbrev pub item_at : Element → ℕ → ℕ → Block
item_at el b j = drop (item_place b j) el

-- assignment j
abbrev pub assignment_count : Element → ℕ
assignment_count el = at el assignments_place

abbrev pub assignment_at : Element → ℕ → Block
assignment_at el j = drop (assignment_place j) el
