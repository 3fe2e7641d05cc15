-- THE LISTING: t the table, s the instances, q the queues of a state. All names that a step could have, in the order of document 01, and of these the
-- accepted ones: "by pool in text order, instance, element, phase, branch, queue place". (RULES: list)
use Rattle.std.specs.Prelude.{ℕ, zero, suc, ◌+◌, List, [], ◌∷◌, eqb}
use Rattle.base_words.specs.Blocks.{Table, Instances, Queues}
use Rattle.base_words.specs.Each.{joined, those}
use Rattle.base_words.specs.Pick.{if◌then◌or_else◌}
use Rattle.base_kinds.specs.declared.moves.Move.{Move}
use Rattle.base_kinds.specs.Moves.{on, phases, move_of}
use Rattle.base_table.specs.Table.{pool_count, element_count, element_at, kind_in, mode_in, message_name}
use Rattle.base_state.specs.Instances.{made_count}
use Rattle.meaning.specs.declared.Tuple.{Tuple}
use Rattle.meaning.specs.declared.Name.{Name}
use Rattle.meaning.specs.Tuples.{empty}
use Rattle.meaning.specs.Queues.{message_count}
use Rattle.meaning.specs.Requirements.{branch_count}
use Rattle.step_names.specs.Names.{offered, step_name, named_by, accepted, blank_name}
use Rattle.step_list.specs.declared.Listed.{Listed}

-- "The values are the message consumed, else empty": how many queue places a move looks at, and the values at place k (RULES: list)
unfoldable pub queue_places : Move → Queues → ℕ → ℕ
queue_places m q name = if eqb m.receives on then message_count q name or_else 1

unfoldable pub values_at : Move → Queues → ℕ → ℕ → List Tuple
values_at m q name k = if eqb m.receives on then offered q name k or_else empty ∷ []

abbrev pub move_at : Table → ℕ → ℕ → ℕ → Move
move_at t p e f = move_of (kind_in (element_at t p e)) (mode_in (element_at t p e)) f

-- THE NAMES, from the inside out: by queue place, branch, phase, element, instance (the unmade one is the last), pool
unfoldable pub by_place : Table → Queues → ℕ → ℕ → ℕ → ℕ → ℕ → ℕ → List Name
by_place t q p i e f b k = named_by (step_name t p i e f b) (values_at (move_at t p e f) q (message_name (element_at t p e) b) k)

unfoldable pub by_branch : Table → Queues → ℕ → ℕ → ℕ → ℕ → ℕ → List Name
by_branch t q p i e f b = joined (by_place t q p i e f b) (queue_places (move_at t p e f) q (message_name (element_at t p e) b))

unfoldable pub by_phase : Table → Queues → ℕ → ℕ → ℕ → ℕ → List Name
by_phase t q p i e f = joined (by_branch t q p i e f) (branch_count (element_at t p e) (move_at t p e f))

unfoldable pub by_element : Table → Queues → ℕ → ℕ → ℕ → List Name
by_element t q p i e = joined (by_phase t q p i e) phases

unfoldable pub by_instance : Table → Queues → ℕ → ℕ → List Name
by_instance t q p i = joined (by_element t q p i) (element_count t p)

unfoldable pub by_pool : Table → Instances → Queues → ℕ → List Name
by_pool t s q p = joined (by_instance t q p) (made_count s p + 1)

unfoldable pub step_names : Table → Instances → Queues → List Name
step_names t s q = joined (by_pool t s q) (pool_count t)

-- THE ACCEPTED ONES
unfoldable pub listed : Table → Instances → Queues → List Name
listed t s q = those (accepted t s q) (step_names t s q)

-- "The listing gives the k-th accepted step, k from 0"; "6: no accepted step with that ordinal". A refusal has a blank name beside it. (RULES: list)
unfoldable pub chosen : List Name → ℕ → Listed
chosen [] k = record { number = 6; name = blank_name }
chosen (n ∷ ns) zero = record { number = 0; name = n }
chosen (n ∷ ns) (suc k) = chosen ns k
