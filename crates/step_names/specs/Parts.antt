-- What the code goes through: of some names the k-th accepted one; the names by the messages of a queue, on a whole state z.
use Rattle.std.specs.Prelude.{ℕ, zero, suc, Bool, true, false, List, [], ◌∷◌, eqb}
use Rattle.base_words.specs.Blocks.{Table, State, Instances, Queues, Instance}
use Rattle.base_words.specs.Each.{those}
use Rattle.base_table.specs.Table.{limit_of}
use Rattle.base_state.specs.Instances.{instances_of, queues_of, made_count}
use Rattle.meaning.specs.declared.Tuple.{Tuple}
use Rattle.meaning.specs.declared.Name.{Name}
use Rattle.meaning.specs.Tuples.{empty}
use Rattle.meaning.specs.Refusals.{first_refusal}
use Rattle.meaning.specs.Requirements.{below_limit}
use Rattle.meaning.specs.Changes.{expected}
use Rattle.meaning.specs.Step.{pool_named, element_named, move_named, instance_of, shared_of, before}
use Rattle.step_refusals.specs.Chain.{before_fields}
use Rattle.step_names.specs.declared.Scan.{Scan}
use Rattle.step_names.specs.Names.{offered, named_by, accepted, blank_name}

-- of some names the accepted ones
abbrev pub accepted_on : Table → State → List Name → List Name
accepted_on t z ns = those (accepted t (instances_of z) (queues_of z)) ns

-- a name with other values; the names by message k of the queue of a name
unfoldable pub with_values : Name → Tuple → Name
with_values n g = record { pool = n.pool; instance = n.instance; element = n.element; phase = n.phase; branch = n.branch; given = g }

unfoldable pub by_message : Queues → Name → ℕ → ℕ → List Name
by_message q n name k = named_by (with_values n) (offered q name k)

-- What a name finds whatever its values: the words h of its instance before the step; whether 16, and 12 or 13 of the guard, let it pass; what is
-- expected where no values are given.
unfoldable pub instance_for : Table → Instances → Name → Instance
instance_for t s n = before (move_named t n) (instance_of s (pool_named t n) n.instance) (shared_of s)

unfoldable pub below_for : Table → Instances → Name → Bool
below_for t s n = below_limit (move_named t n) (made_count s (pool_named t n)) (limit_of t (pool_named t n))

unfoldable pub ready_for : Table → Instance → Name → Bool
ready_for t h n = eqb (first_refusal (before_fields (element_named t n) h (move_named t n) n.branch)) 0

unfoldable pub worked_for : Table → Instance → Name → Tuple
worked_for t h n = (expected (element_named t n) h (move_named t n) n.branch empty).tuple

-- the k-th of a list, or what is left of k behind it
unfoldable pub scan : List Name → ℕ → Scan
scan [] k = record { found = false; left = k; name = blank_name }
scan (n ∷ ns) zero = record { found = true; left = 0; name = n }
scan (n ∷ ns) (suc k) = scan ns k
