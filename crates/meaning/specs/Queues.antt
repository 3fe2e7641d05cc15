-- The messages that stand in the queues part q of a state, and the words that messages stand as.
use Rattle.std.specs.Prelude.{ℕ, ◌+◌, ◌-◌, ◌≤◌, ◌<◌, ◌≡◌, List, [], ◌∷◌, eqb, ltb, length}
use Rattle.base_words.specs.Blocks.{Queues}
use Rattle.base_words.specs.Each.{tab}
use Rattle.base_words.specs.Pick.{if◌then◌or_else◌}
use Rattle.base_words.specs.Words.{at}
use Rattle.base_words.specs.Writes.{writes}
use Rattle.base_words.specs.Counts.{values, messages}
use Rattle.meaning.specs.declared.Tuple.{Tuple}
use Rattle.meaning.specs.Tuples.{value_of}
use Rattle.base_state.specs.Places.{values_in, slots_in, slot_words, queue_words, queue_place, slot_place}
use Rattle.meaning.specs.Messages.{appended, without}

-- READING: how many messages the queue of a name holds; message k, oldest first; all of them
abbrev pub message_count : Queues → ℕ → ℕ
message_count q name = at q (queue_place name)

abbrev pub value_at : Queues → ℕ → ℕ → ℕ → ℕ
value_at q name k j = at q (slot_place name k + values_in + j)

abbrev pub message_at : Queues → ℕ → ℕ → Tuple
message_at q name k = record { length = at q (slot_place name k); values = value_at q name k 0 ∷ value_at q name k 1 ∷ value_at q name k 2 ∷ value_at q name k 3 ∷ [] }

unfoldable pub messages_of : Queues → ℕ → List Tuple
messages_of q name = tab (message_at q name) (message_count q name)

-- WRITING: word i of a message, of messages one behind the other, of a queue; what is not in use is 0
unfoldable pub message_word : Tuple → ℕ → ℕ
message_word g i = if eqb i 0 then g.length or_else value_of g (i - values_in)

unfoldable pub messages_word : List Tuple → ℕ → ℕ
messages_word [] i = 0
messages_word (g ∷ gs) i = if ltb i slot_words then message_word g i or_else messages_word gs (i - slot_words)

unfoldable pub queue_word : List Tuple → ℕ → ℕ
queue_word ms i = if eqb i 0 then length ms or_else messages_word ms (i - slots_in)

-- the queues with these messages in the queue of a name
unfoldable pub with_messages : Queues → ℕ → List Tuple → Queues
with_messages q name ms = writes (queue_word ms) q (queue_place name) queue_words

-- THE TWO OPERATIONS
abbrev pub sending : Queues → ℕ → Tuple → Queues
sending q name g = with_messages q name (appended (messages_of q name) g)

abbrev pub consuming : Queues → ℕ → Tuple → Queues
consuming q name g = with_messages q name (without g (messages_of q name))

-- WHAT IS NOT IN USE: a message with 0 behind its length, as it is read back; a queue whose words are those of its messages, at most 64
unfoldable pub tidied : Tuple → Tuple
tidied g = record { length = g.length; values = value_of g 0 ∷ value_of g 1 ∷ value_of g 2 ∷ value_of g 3 ∷ [] }

pub record Tidy (q : List ℕ) (name : ℕ) : Type 0 where
  pub room : message_count q name ≤ messages
  pub words : (i : ℕ) → i < queue_words → at q (queue_place name + i) ≡ queue_word (messages_of q name) i
