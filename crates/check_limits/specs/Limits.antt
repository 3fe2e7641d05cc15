-- When a table is within "Greatest counts", with 0 in every place that is not in use: of an element from its row of the table of kinds alone.
-- x is the words from a place on, el an element's, t a table.
use Rattle.std.specs.Prelude.{ℕ, ◌+◌, ◌-◌, ◌*◌, Bool, true, false, not, ◌&&◌, List, eqb, leb, ltb, drop}
use Rattle.base_words.specs.Blocks.{Block, Table, Element}
use Rattle.base_words.specs.All.{all}
use Rattle.base_words.specs.Pick.{if◌then◌or_else◌}
use Rattle.base_words.specs.Words.{at}
use Rattle.base_words.specs.Counts.{pools, elements, fewest, branches, pool_numbers, edges, tasks, names, instances, fields_named, values, assignments}
use Rattle.base_kinds.specs.declared.Kind.{Kind}
use Rattle.base_kinds.specs.Kinds.{none, one, many, kind_of, used, end_snd}
use Rattle.base_kinds.specs.Moves.{a, na_nc}
use Rattle.base_table.specs.Places.{operand_words, a_field, operand_number, form_place, left_place, right_place, expression_words, single, plus, minus, binding, always, default, equals, below, first_edge, entries_place, exits_place, condition_place, length_in, items_in, message_words, message_place, assigned_in, assignment_words, assignment_place, element_words, pool_words, pool_place, limit_place}
use Rattle.base_table.specs.Table.{pool_count, element_count, element_at, kind_in, task_in, mode_in, assignment_count}

-- n is from low to high
abbrev pub within : ℕ → ℕ → ℕ → Bool
within low high n = leb low n && leb n high

-- the first n words are 0
unfoldable pub zeros : Block → ℕ → Bool
zeros x n = all (λ k. eqb (at x k) 0) n

-- of n things of w words each the first k are right, and the words of the others are 0
unfoldable pub things : Block → ℕ → ℕ → ℕ → (List ℕ → Bool) → Bool
things x w n k right = all (λ j. right (drop (w * j) x)) k && zeros (drop (w * k) x) (w * (n - k))

-- an operand: a number, or a field 0 to 15
unfoldable pub operand_fits : Block → Bool
operand_fits x = if eqb (at x 0) 0 then true or_else eqb (at x 0) a_field && ltb (at x operand_number) fields_named

-- an expression: an operand alone, or two joined
unfoldable pub expression_fits : Block → Bool
expression_fits x =
    if eqb (at x form_place) single then operand_fits (drop left_place x) && zeros (drop right_place x) operand_words
    or_else within plus minus (at x form_place) && operand_fits (drop left_place x) && operand_fits (drop right_place x)

-- an item of a message: an expression, or, where it is received, a field that it binds
unfoldable pub bind_fits : Block → Bool
bind_fits x = eqb (at x left_place) a_field && ltb (at x (left_place + operand_number)) fields_named && zeros (drop right_place x) operand_words

unfoldable pub item_fits : ℕ → Block → Bool
item_fits receives x = if eqb (at x form_place) binding then (if eqb receives none then false or_else bind_fits x) or_else expression_fits x

-- a condition: `true`; `default` where each exit has one; or two operands joined
unfoldable pub condition_fits : ℕ → Block → Bool
condition_fits conditions x =
    if eqb (at x form_place) always then zeros (drop left_place x) (operand_words + operand_words)
    or_else if eqb (at x form_place) default then eqb conditions many && zeros (drop left_place x) (operand_words + operand_words)
    or_else within equals below (at x form_place) && operand_fits (drop left_place x) && operand_fits (drop right_place x)

-- a message: its name, its length, its items
unfoldable pub message_fits : ℕ → Block → Bool
message_fits receives x = ltb (at x 0) names && leb (at x length_in) values && things (drop items_in x) expression_words values (at x length_in) (item_fits receives)

-- an assignment: a field and an expression
unfoldable pub assignment_fits : Block → Bool
assignment_fits x = ltb (at x 0) fields_named && expression_fits (drop assigned_in x)

-- a list of entries or exits: none, one, or 2 to 8; each edge 1 to 48
unfoldable pub count_fits : ℕ → ℕ → Bool
count_fits column n = if eqb column many then within fewest branches n or_else eqb n column

unfoldable pub edge_fits : Block → Bool
edge_fits x = within 1 edges (at x 0)

unfoldable pub edges_fit : ℕ → Block → Bool
edges_fit column x = count_fits column (at x 0) && things (drop first_edge x) 1 branches (at x 0) edge_fits

-- task number, mode and count of assignments
unfoldable pub task_fits : ℕ → Element → Bool
task_fits task el =
    if eqb task one then within 1 tasks (task_in el) && within a na_nc (mode_in el) && leb (assignment_count el) assignments
    or_else eqb (task_in el) 0 && eqb (mode_in el) 0 && eqb (assignment_count el) 0

-- an element: a kind, and what its row says
unfoldable pub conditions_fit : ℕ → Element → Bool
conditions_fit conditions el =
    things (drop (condition_place 0) el) expression_words branches (used conditions (at el exits_place)) (condition_fits conditions)

unfoldable pub messages_fit : ℕ → ℕ → Element → Bool
messages_fit receives sends el =
    things (drop (message_place 0) el) message_words branches (used (receives + sends) (at el exits_place)) (message_fits receives)

unfoldable pub assignments_fit : Element → Bool
assignments_fit el = things (drop (assignment_place 0) el) assignment_words assignments (assignment_count el) assignment_fits

unfoldable pub parts_fit : Kind → Element → Bool
parts_fit k el =
    task_fits k.task el
    && edges_fit k.entries (drop entries_place el)
    && edges_fit k.exits (drop exits_place el)
    && conditions_fit k.conditions el
    && messages_fit k.receives k.sends el
    && assignments_fit el

unfoldable pub element_fits : Element → Bool
element_fits el = not (eqb (kind_of (kind_in el)).letters 0) && parts_fit (kind_of (kind_in el)) el

-- an element that a table holds: of `endSnd`, "in a lent table it breaks a limit" (RULES: limits)
unfoldable pub held_fits : Element → Bool
held_fits el = element_fits el && not (eqb (kind_in el) end_snd)

-- a pool: number 1 to 9, limit 1 to 16 or none, 1 to 32 elements
unfoldable pub pool_fits : Table → ℕ → Bool
pool_fits t p =
    within 1 pool_numbers (at t (pool_place p))
    && leb (at t (limit_place p)) instances
    && within 1 elements (element_count t p)
    && things (element_at t p 0) element_words elements (element_count t p) held_fits

-- a table: 1 to 4 pools, and 0 behind them
unfoldable pub table_fits : Table → Bool
table_fits t = within 1 pools (pool_count t) && all (pool_fits t) (pool_count t) && zeros (drop (pool_place (pool_count t)) t) (pool_words * (pools - pool_count t))
