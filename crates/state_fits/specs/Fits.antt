-- "A state fits when a pool with `start` has one instance and the others at most their limit, only edges of the table carry tokens, only na tasks have
-- counts (`task` no ready count), and unused places hold 0." t is a table, s the instances and q the queues of a state, h an instance. (RULES: fits)
use Rattle.std.specs.Prelude.{ℕ, ◌+◌, ◌-◌, ◌*◌, Bool, true, ◌&&◌, List, [], ◌∷◌, ◌++◌, eqb, leb, ltb, drop, set, replicate}
use Rattle.base_words.specs.Blocks.{Block, Table, Element, Instances, Queues, Instance}
use Rattle.base_words.specs.All.{all}
use Rattle.base_words.specs.Each.{tab}
use Rattle.base_words.specs.Iter.{iter}
use Rattle.base_words.specs.Pick.{if◌then◌or_else◌}
use Rattle.base_words.specs.Seek.{seek}
use Rattle.base_words.specs.Words.{at}
use Rattle.base_words.specs.Counts.{pools, names, instances, fields, values, messages, count_most}
use Rattle.base_kinds.specs.Kinds.{start, kind_of}
use Rattle.base_kinds.specs.Moves.{a}
use Rattle.base_table.specs.Table.{pool_count, element_count, element_at, limit_of, kind_in, task_in, mode_in, entry_count, exit_count, entry_at, exit_at}
use Rattle.base_state.specs.Places.{token_place, active_place, ready_place, defined_place, instance_words, shared_place, slot_words, slot_place}
use Rattle.base_state.specs.Instances.{made_count, instance_at}
use Rattle.check_limits.specs.Limits.{zeros}
use Rattle.meaning.specs.Tuples.{value_of}
use Rattle.meaning.specs.Queues.{message_count, value_at, message_at}

-- THE POOL. The place of its `start` among its elements; whether it has one; how many instances it may have made.
unfoldable pub is_start : Table → ℕ → ℕ → Bool
is_start t p e = eqb (kind_in (element_at t p e)) start

unfoldable pub start_place : Table → ℕ → ℕ
start_place t p = seek (is_start t p) (element_count t p)

unfoldable pub has_start : Table → ℕ → Bool
has_start t p = ltb (start_place t p) (element_count t p)

unfoldable pub made_fits : Table → ℕ → ℕ → Bool
made_fits t p made =
    if leb (pool_count t) p then eqb made 0
    or_else if has_start t p then eqb made 1
    or_else leb made (limit_of t p)

-- THE PLACES that an element lets an instance use: the tokens of its edges; of an na task the active count, and the ready count where it receives or sends
unfoldable pub count_places : Element → List ℕ
count_places el =
    if leb (mode_in el) a then []
    or_else if eqb ((kind_of (kind_in el)).receives + (kind_of (kind_in el)).sends) 0 then active_place (task_in el) ∷ []
    or_else active_place (task_in el) ∷ ready_place (task_in el) ∷ []

unfoldable pub places_of : Element → List ℕ
places_of el =
    tab (λ j. token_place (entry_at el j)) (entry_count el) ++ (tab (λ j. token_place (exit_at el j)) (exit_count el) ++ count_places el)

unfoldable pub all_marked : Block → List ℕ → List ℕ
all_marked w [] = w
all_marked w (k ∷ ks) = all_marked (set w k 1) ks

-- 1 at each place of tokens and counts that an element of the pool uses, 0 at the others
unfoldable pub usable : Table → ℕ → List ℕ
usable t p = iter (λ e w. all_marked w (places_of (element_at t p e))) (replicate (defined_place 0) 0) (element_count t p)

-- FIELDS, f the words from the first one on, of an instance or the stores: each is defined or not, an undefined one's value 0
unfoldable pub field_fits : List ℕ → ℕ → Bool
field_fits f d = if eqb (at f (2 * d)) 0 then eqb (at f (2 * d + 1)) 0 or_else eqb (at f (2 * d)) 1

unfoldable pub fields_fit : List ℕ → Bool
fields_fit f = all (field_fits f) fields

-- AN INSTANCE, u the places it may use: tokens and counts at most 255, and none elsewhere; its fields
unfoldable pub place_fits : List ℕ → Instance → ℕ → Bool
place_fits u h k = if eqb (at h k) 0 then true or_else eqb (at u k) 1 && leb (at h k) count_most

unfoldable pub instance_fits : List ℕ → Instance → Bool
instance_fits u h = all (place_fits u h) (defined_place 0) && fields_fit (drop (defined_place 0) h)

-- the instances of pool p: the made ones fit, the words of the others are 0
unfoldable pub instances_fit : Table → Instances → ℕ → Bool
instances_fit t s p =
    made_fits t p (made_count s p)
    && all (λ i. instance_fits (usable t p) (instance_at s p i)) (made_count s p)
    && zeros (instance_at s p (made_count s p)) (instance_words * (instances - made_count s p))

-- what all instances share: the stores, as fields; the version is not looked at here (25)
unfoldable pub shared_fits : Instances → Bool
shared_fits s = fields_fit (drop shared_place s)

-- A QUEUE: at most 64 messages, each of at most 4 values, 0 behind them and behind the last
unfoldable pub slot_fits : Queues → ℕ → ℕ → Bool
slot_fits q m k =
    leb (message_at q m k).length values && all (λ j. eqb (value_at q m k j) (value_of (message_at q m k) j)) values

unfoldable pub queue_fits : Queues → ℕ → Bool
queue_fits q m =
    leb (message_count q m) messages
    && all (slot_fits q m) (message_count q m)
    && zeros (drop (slot_place m (message_count q m)) q) (slot_words * (messages - message_count q m))

-- THE STATE
unfoldable pub state_fits : Table → Instances → Queues → Bool
state_fits t s q = all (instances_fit t s) pools && shared_fits s && all (queue_fits q) names
