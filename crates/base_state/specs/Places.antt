-- Where things stand in a state, one block of words: the instances, what they share, then the queues. Each place is defined here and nowhere else.
use Rattle.std.specs.Prelude.{ℕ, ◌+◌, ◌-◌, ◌*◌}
use Rattle.base_words.specs.Counts.{pools, edges, tasks, names, instances, fields, stores, values, messages}

-- An instance: tokens of edges 1 to 48; active counts of tasks 1 to 16; ready counts; for fields 0 to 15 whether they are defined; their values.
abbrev pub token_place : ℕ → ℕ
token_place e = e - 1

abbrev pub active_place : ℕ → ℕ
active_place task = edges + (task - 1)

abbrev pub ready_place : ℕ → ℕ
ready_place task = edges + tasks + (task - 1)

abbrev pub defined_place : ℕ → ℕ
defined_place d = edges + tasks + tasks + 2 * d

abbrev pub value_place : ℕ → ℕ
value_place d = defined_place d + 1

abbrev pub instance_words : ℕ
instance_words = defined_place fields

-- The instances: for each pool how many are made, then 16 instances for each pool.
abbrev pub made_place : ℕ → ℕ
made_place p = p

abbrev pub instance_place : ℕ → ℕ → ℕ
instance_place p i = pools + instance_words * instances * p + instance_words * i

-- What all instances share stands behind them: 16 stores, each as a field has it, then the version.
abbrev pub store_words : ℕ
store_words = 2 * stores

abbrev pub version_in : ℕ
version_in = store_words

abbrev pub shared_words : ℕ
shared_words = version_in + 1

abbrev pub shared_place : ℕ
shared_place = instance_place pools 0

-- where the version stands in a state
abbrev pub version_at : ℕ
version_at = shared_place + version_in

abbrev pub instances_words : ℕ
instances_words = shared_place + shared_words

-- What a step sees: the words of an instance, and behind them those that all share. Store 0 stands where field 16 would.
abbrev pub copy_words : ℕ
copy_words = instance_words + shared_words

-- where a step sees the version
abbrev pub version_place : ℕ
version_place = instance_words + version_in

-- The queues, from their own start: for each name the count of its messages, then 64 of length and 4 values, oldest first.
abbrev pub values_in : ℕ
values_in = 1

abbrev pub slot_words : ℕ
slot_words = values_in + values

abbrev pub slots_in : ℕ
slots_in = 1

abbrev pub queue_words : ℕ
queue_words = slots_in + slot_words * messages

abbrev pub queue_place : ℕ → ℕ
queue_place name = queue_words * name

abbrev pub slot_place : ℕ → ℕ → ℕ
slot_place name k = queue_place name + slots_in + slot_words * k

abbrev pub state_words : ℕ
state_words = instances_words + queue_place names
