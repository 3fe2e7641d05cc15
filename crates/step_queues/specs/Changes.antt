-- The same two operations as few words as they change: what the code writes, whatever the words were before. Where a queue holds 0 in what is
-- not in use, they are the operations on lists of messages (proofs/QueueLaws.antt).
use Rattle.std.specs.Prelude.{ℕ, ◌+◌, ◌-◌, ◌*◌, Bool, ltb, set}
use Rattle.base_words.specs.Blocks.{Queues}
use Rattle.base_words.specs.Pick.{if◌then◌or_else◌}
use Rattle.base_words.specs.Seek.{seek}
use Rattle.base_words.specs.Words.{at}
use Rattle.base_words.specs.Writes.{writes}
use Rattle.base_words.specs.Counts.{values, messages}
use Rattle.meaning.specs.declared.Tuple.{Tuple}
use Rattle.meaning.specs.Tuples.{empty, value_of, same_tuple}
use Rattle.base_state.specs.Places.{values_in, slot_words, queue_place, slot_place}
use Rattle.meaning.specs.Queues.{message_count, message_at}

-- message k is equal to g; the place of the oldest that is, the count where none is
unfoldable pub message_is : Queues → ℕ → Tuple → ℕ → Bool
message_is q m g k = same_tuple (message_at q m k) g

unfoldable pub oldest : Queues → ℕ → Tuple → ℕ
oldest q m g = seek (message_is q m g) (message_count q m)

-- g stored as message k
unfoldable pub stored : Queues → ℕ → ℕ → Tuple → Queues
stored q m k g = writes (value_of g) (set q (slot_place m k) g.length) (slot_place m k + values_in) values

-- a queue holds at most 64
unfoldable pub one_more : ℕ → ℕ
one_more n = if ltb n messages then n + 1 or_else n

unfoldable pub extended : Queues → ℕ → Tuple → Queues
extended q m g = set (stored q m (message_count q m) g) (queue_place m) (one_more (message_count q m))

-- the messages behind message k, one slot up
unfoldable pub closed_up : Queues → ℕ → ℕ → Queues
closed_up q m k = writes (λ i. at q (slot_place m k + i + slot_words)) q (slot_place m k) (slot_words * (message_count q m - 1 - k))

unfoldable pub removed : Queues → ℕ → ℕ → Queues
removed q m k = set (stored (closed_up q m k) m (message_count q m - 1) empty) (queue_place m) (message_count q m - 1)
