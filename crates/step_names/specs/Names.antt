-- THE NAMES of steps: t the table, s the instances, q the queues of a state.
use Rattle.std.specs.Prelude.{ℕ, Bool, List, [], ◌∷◌, eqb}
use Rattle.base_words.specs.Blocks.{Table, Instances, Queues}
use Rattle.base_words.specs.Each.{tab}
use Rattle.base_words.specs.Pick.{if◌then◌or_else◌}
use Rattle.base_words.specs.Words.{at}
use Rattle.base_table.specs.Places.{pool_place}
use Rattle.meaning.specs.declared.Tuple.{Tuple}
use Rattle.meaning.specs.declared.Name.{Name}
use Rattle.meaning.specs.Tuples.{empty}
use Rattle.meaning.specs.Messages.{has}
use Rattle.meaning.specs.Queues.{message_at}
use Rattle.meaning.specs.Refusals.{first_refusal}
use Rattle.meaning.specs.Step.{refusals}

-- the name of a step of element e of the pool at place p; a pool is named by its number
unfoldable pub step_name : Table → ℕ → ℕ → ℕ → ℕ → ℕ → Tuple → Name
step_name t p i e f b g = record { pool = at t (pool_place p); instance = i; element = e; phase = f; branch = b; given = g }

-- a list of at most one tuple, as a name
unfoldable pub named_by : (Tuple → Name) → List Tuple → List Name
named_by f [] = []
named_by f (g ∷ gs) = f g ∷ named_by f gs

-- "equal messages appear once, at the oldest": message k of the queue of a name, where no older one is equal to it (RULES: list)
unfoldable pub offered : Queues → ℕ → ℕ → List Tuple
offered q name k = if has (message_at q name k) (tab (message_at q name) k) then [] or_else message_at q name k ∷ []

-- accepted: nothing refuses the step
unfoldable pub accepted : Table → Instances → Queues → Name → Bool
accepted t s q n = eqb (first_refusal (refusals t s q n)) 0

-- beside a refusal
abbrev pub blank_name : Name
blank_name = record { pool = 0; instance = 0; element = 0; phase = 0; branch = 0; given = empty }
