-- Where things stand in a table, one block of words: the pool count, then the pools. Each place is defined here and nowhere else.
use Rattle.std.specs.Prelude.{ℕ, ◌+◌, ◌*◌}
use Rattle.base_words.specs.Counts.{pools, elements, branches, values, assignments}

-- An operand: 0 and a number, or 1 and a field.
abbrev pub operand_words : ℕ
operand_words = 2

abbrev pub a_field : ℕ
a_field = 1

abbrev pub operand_number : ℕ
operand_number = 1

-- An expression, an item of a message or a condition: its form, then two operands.
abbrev pub form_place : ℕ
form_place = 0

abbrev pub left_place : ℕ
left_place = 1

abbrev pub right_place : ℕ
right_place = left_place + operand_words

abbrev pub expression_words : ℕ
expression_words = right_place + operand_words

-- Forms of an expression: an operand alone, a sum, a difference; of a template's item also: it binds the field of its first operand.
abbrev pub single : ℕ
single = 1

abbrev pub plus : ℕ
plus = 2

abbrev pub minus : ℕ
minus = 3

abbrev pub binding : ℕ
binding = 4

-- Forms of a condition: `true`, `default`, two operands joined by `=`, by `<`.
abbrev pub always : ℕ
always = 1

abbrev pub default : ℕ
default = 2

abbrev pub equals : ℕ
equals = 3

abbrev pub below : ℕ
below = 4

-- An element: kind, task number, mode; the count of its entries, and 8 places for them; the same for its exits;
abbrev pub kind_place : ℕ
kind_place = 0

abbrev pub task_place : ℕ
task_place = 1

abbrev pub mode_place : ℕ
mode_place = 2

abbrev pub entries_place : ℕ
entries_place = 3

-- edge j of a list: its count stands before it
abbrev pub first_edge : ℕ
first_edge = 1

abbrev pub edge_place : ℕ → ℕ → ℕ
edge_place list j = list + first_edge + j

abbrev pub exits_place : ℕ
exits_place = edge_place entries_place branches

-- 8 conditions (a guard is the first);
abbrev pub condition_place : ℕ → ℕ
condition_place b = edge_place exits_place branches + expression_words * b

-- 8 messages: name, length, 4 items (a single message is the first);
abbrev pub length_in : ℕ
length_in = 1

abbrev pub items_in : ℕ
items_in = 2

abbrev pub message_words : ℕ
message_words = items_in + expression_words * values

abbrev pub message_place : ℕ → ℕ
message_place b = condition_place branches + message_words * b

abbrev pub length_place : ℕ → ℕ
length_place b = message_place b + length_in

abbrev pub item_place : ℕ → ℕ → ℕ
item_place b j = message_place b + items_in + expression_words * j

-- the count of assignments, and 4 of them: a field and an expression.
abbrev pub assigned_in : ℕ
assigned_in = 1

abbrev pub assignment_words : ℕ
assignment_words = assigned_in + expression_words

abbrev pub assignments_place : ℕ
assignments_place = message_place branches

abbrev pub assignment_place : ℕ → ℕ
assignment_place j = assignments_place + 1 + assignment_words * j

abbrev pub element_words : ℕ
element_words = assignment_place assignments

-- A pool: number, limit (n of a miPool, 0 of a `pool`), the count of its elements, 32 elements. The pool count stands before the pools.
abbrev pub limit_in : ℕ
limit_in = 1

abbrev pub element_count_in : ℕ
element_count_in = 2

abbrev pub elements_in : ℕ
elements_in = 3

abbrev pub pool_words : ℕ
pool_words = elements_in + element_words * elements

abbrev pub pools_place : ℕ
pools_place = 0

abbrev pub pool_place : ℕ → ℕ
pool_place p = 1 + pool_words * p

abbrev pub limit_place : ℕ → ℕ
limit_place p = pool_place p + limit_in

abbrev pub elements_place : ℕ → ℕ
elements_place p = pool_place p + element_count_in

abbrev pub element_place : ℕ → ℕ → ℕ
element_place p e = pool_place p + elements_in + element_words * e

abbrev pub table_words : ℕ
table_words = pool_place pools
