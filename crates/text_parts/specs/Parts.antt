-- THE PARTS OF AN ELEMENT'S TEXT, in the words of document 01. x is the words of the element, in which each part is stored at its place. (RULES: reading)
use Prim.Native.Char.{code}
use Rattle.std.specs.Prelude.{ℕ, zero, suc, ◌+◌, ◌-◌, Bool, false, List, eqb}
use Rattle.base_words.specs.Pick.{if◌then◌or_else◌}
use Rattle.base_words.specs.Counts.{fewest, branches, tasks, names, values, assignments}
use Rattle.base_table.specs.Places.{task_place, entries_place, exits_place, edge_place, condition_place, message_place, length_place, item_place, assignments_place}
use Rattle.text_readers.specs.Reading.{Reader, if_at, onward, ◌then◌, nothing, place_of, sign_at, sign, number, mode, starts_sign}
pub use Rattle.text_terms.specs.Terms.{store, edge}
unfoldable pub use Rattle.text_terms.specs.Terms.{joint, expression, bind, template_item, comparison, condition, assignment, guarded}
pub use Rattle.text_bounds.specs.Bounds.{an_edge, a_template_item, a_message_item, an_assignment, a_guarded_branch}
unfoldable pub use Rattle.text_bounds.specs.Bounds.{starts, too_many, counted}
use Rattle.text_parts.specs.declared.Series.{Series}

-- LISTS
-- "E a list `{e,f,..}`"; "X is `<..>` with 0 to 4 expressions"; "lists and branches 2 to 8" (RULES: reading)
abbrev pub edge_list : ℕ → Series
edge_list list = record { item = an_edge; opener = code "{"; closer = code "}"; least = fewest; most = branches; count = list; branch = 0 }

abbrev pub guarded_list : Series
guarded_list = record { item = a_guarded_branch; opener = code "{"; closer = code "}"; least = fewest; most = branches; count = exits_place; branch = 0 }

abbrev pub assignment_list : Series
assignment_list = record { item = an_assignment; opener = code "{"; closer = code "}"; least = 0; most = assignments; count = assignments_place; branch = 0 }

abbrev pub tuple : ℕ → ℕ → Series
tuple item b = record { item = item; opener = code "<"; closer = code ">"; least = 0; most = values; count = length_place b; branch = b }

-- item k of a list
unfoldable pub item_of : Series → ℕ → Reader
item_of s k =
    if eqb s.item an_edge then edge (edge_place s.count k)
    or_else if eqb s.item a_template_item then template_item (item_place s.branch k)
    or_else if eqb s.item a_message_item then expression (item_place s.branch k)
    or_else if eqb s.item an_assignment then assignment k
    or_else guarded k

-- items with commas between them, from item k on, where n more are allowed
unfoldable pub items_from : (ℕ → Reader) → (List ℕ → ℕ → Bool) → ℕ → ℕ → ℕ → ℕ → Reader
items_from item starting least count zero k text at x = too_many (starting text at) (place_of text at) x
items_from item starting least count (suc n) k text at x =
    onward (item k text at x)
    (λ q y. if_at (sign_at (code ",") text q) (λ a. items_from item starting least count n (k + 1) text a y) (counted least count (k + 1) text q y))

unfoldable pub items : Series → Reader
items s = items_from (item_of s) (starts s.item) s.least s.count s.most 0

-- a list that may be empty closes at once
unfoldable pub inside : Series → Reader
inside s text at x =
    if eqb s.least 0
    then if_at (sign_at s.closer text at) (λ q. store s.count 0 text q x) ((items s then sign s.closer) text at x)
    or_else (items s then sign s.closer) text at x

unfoldable pub series : Series → Reader
series s = sign s.opener then inside s

-- "m a message name": `m:T` or `m:X`, the message of branch b (RULES: reading)
unfoldable pub message : ℕ → ℕ → Reader
message item b = number 0 (names - 1) (message_place b) then sign (code ":") then series (tuple item b)

-- a branch `(m:T,f)` of an eventBased, and its 2 to 8 branches
unfoldable pub receiving : ℕ → Reader
receiving b = sign (code "(") then message a_template_item b then sign (code ",") then edge (edge_place exits_place b) then sign (code ")")

unfoldable pub receiving_branches : Reader
receiving_branches = items_from receiving (starts_sign (code "(")) fewest exits_place branches 0

-- one entry or exit; "n a task number", k, C, A (RULES: reading)
unfoldable pub one_edge : ℕ → Reader
one_edge list = edge (edge_place list 0) then store list 1

unfoldable pub task_part : Reader
task_part =
    number 1 tasks task_place then sign (code ",")
    then mode then sign (code ",")
    then condition false (condition_place 0) then sign (code ",")
    then series assignment_list

-- the part with a code of the table of kinds; any other code reads nothing
unfoldable pub part_of : ℕ → Reader
part_of c =
    if eqb c (code "E") then one_edge entries_place
    or_else if eqb c (code "X") then one_edge exits_place
    or_else if eqb c (code "F") then series (edge_list entries_place)
    or_else if eqb c (code "Y") then series (edge_list exits_place)
    or_else if eqb c (code "N") then task_part
    or_else if eqb c (code "T") then message a_template_item 0
    or_else if eqb c (code "S") then message a_message_item 0
    or_else if eqb c (code "G") then series guarded_list
    or_else if eqb c (code "B") then receiving_branches
    or_else nothing
