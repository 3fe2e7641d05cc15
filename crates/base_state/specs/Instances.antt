-- What the instances s of a state say, and the words h of one instance: "tokens on each edge, an active and a ready count for each task, and
-- 16 fields. A field is 0 to 4,294,967,295 or undefined." (RULES: state)
use Rattle.std.specs.Prelude.{ℕ, ◌+◌, set, take, drop}
use Rattle.base_words.specs.Blocks.{State, Instances, Queues, Instance}
use Rattle.base_words.specs.Words.{at}
use Rattle.base_words.specs.Writes.{writes}
use Rattle.base_state.specs.Places.{token_place, active_place, ready_place, defined_place, value_place, made_place, instance_place, instance_words, store_words, shared_place, version_place, version_at, instances_words}

-- the two parts of a state
abbrev pub instances_of : State → Instances
instances_of z = take instances_words z

abbrev pub queues_of : State → Queues
queues_of z = drop instances_words z

-- how many instances pool p has made; the words from instance i of pool p on
abbrev pub made_count : Instances → ℕ → ℕ
made_count s p = at s (made_place p)

abbrev pub instance_at : Instances → ℕ → ℕ → Instance
instance_at s p i = drop (instance_place p i) s

abbrev pub tokens : Instance → ℕ → ℕ
tokens h e = at h (token_place e)

abbrev pub active_count : Instance → ℕ → ℕ
active_count h task = at h (active_place task)

abbrev pub ready_count : Instance → ℕ → ℕ
ready_count h task = at h (ready_place task)

-- the version of a state, and as a step sees it
abbrev pub version_of : Instances → ℕ
version_of s = at s version_at

abbrev pub version_seen : Instance → ℕ
version_seen h = at h version_place

-- the instance with another number of tokens, another count, a field defined
abbrev pub with_tokens : Instance → ℕ → ℕ → Instance
with_tokens h e count = set h (token_place e) count

abbrev pub with_active : Instance → ℕ → ℕ → Instance
with_active h task count = set h (active_place task) count

abbrev pub with_ready : Instance → ℕ → ℕ → Instance
with_ready h task count = set h (ready_place task) count

abbrev pub with_field : Instance → ℕ → ℕ → Instance
with_field h d v = set (set h (defined_place d) 1) (value_place d) v

-- the instances with the words h stored as instance i of pool p, with another number of instances made
abbrev pub with_instance : Instances → ℕ → ℕ → Instance → Instances
with_instance s p i h = writes (at h) s (instance_place p i) instance_words

-- the instances with the stores of the words h that a step leaves, which stand behind those of its instance
abbrev pub with_stores : Instances → Instance → Instances
with_stores s h = writes (λ k. at h (instance_words + k)) s shared_place store_words

abbrev pub with_made : Instances → ℕ → ℕ → Instances
with_made s p count = set s (made_place p) count
