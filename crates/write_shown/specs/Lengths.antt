-- The greatest length of each text, whatever stands in the table: a count is a word.
use Rattle.std.specs.Prelude.{ℕ, ◌+◌, ◌*◌}
use Rattle.base_words.specs.Counts.{pools}
use Rattle.base_words.specs.Words.{greatest, digits}

-- as many pieces of k bytes, each with its sign, as a word counts
abbrev list_most : ℕ → ℕ
list_most k = greatest * (1 + k)

abbrev pub operand_most : ℕ
operand_most = 1 + digits

-- an expression, an item or a condition
abbrev pub pair_most : ℕ
pair_most = operand_most + 1 + operand_most

abbrev pub items_most : ℕ
items_most = list_most pair_most

abbrev pub tuple_most : ℕ
tuple_most = items_most + 2

abbrev pub message_most : ℕ
message_most = digits + 1 + tuple_most

abbrev pub edges_most : ℕ
edges_most = list_most digits

abbrev pub choice_most : ℕ
choice_most = digits + 1 + pair_most

abbrev pub guarded_most : ℕ
guarded_most = choice_most + 2

abbrev pub event_most : ℕ
event_most = message_most + 1 + digits

abbrev pub receiving_most : ℕ
receiving_most = event_most + 2

-- of a list of branches: those that receive are the longer ones
abbrev pub branches_most : ℕ
branches_most = list_most receiving_most

-- `na_nc`
abbrev pub mode_most : ℕ
mode_most = 5

abbrev pub assignment_most : ℕ
assignment_most = operand_most + 2 + pair_most

abbrev pub assigned_most : ℕ
assigned_most = list_most assignment_most

abbrev pub work_most : ℕ
work_most = pair_most + 1 + assigned_most + 2

abbrev pub task_most : ℕ
task_most = digits + 1 + mode_most + 1 + work_most

-- the longest part is a list of branches between its signs
abbrev pub part_most : ℕ
part_most = branches_most + 2

-- of at most four parts, each behind its sign
abbrev pub parts_most : ℕ
parts_most = 4 * (1 + part_most)

-- `eventBased`
abbrev pub keyword_most : ℕ
keyword_most = 10

abbrev pub element_most : ℕ
element_most = keyword_most + parts_most + 1

abbrev pub elements_most : ℕ
elements_most = list_most element_most

abbrev pub limit_most : ℕ
limit_most = 1 + digits

abbrev pub contents_most : ℕ
contents_most = elements_most + limit_most

abbrev pub numbered_most : ℕ
numbered_most = digits + 1 + contents_most

abbrev pub enclosed_most : ℕ
enclosed_most = numbered_most + 2

-- `miPool`
abbrev pub pool_word_most : ℕ
pool_word_most = 6

abbrev pub pool_most : ℕ
pool_most = pool_word_most + enclosed_most

abbrev pub pools_most : ℕ
pools_most = pools * (1 + pool_most)
