-- A HISTORY OF CALLS, and what is counted in it: "posted, from a post's arguments where its answer was 0; sent and consumed, from a step's answer (its traffic, name and tuple) where its number was 0. Only queued is
-- read from the last state." m is a name, g a tuple, h a history, z a state. (RULES: steps)
use Rattle.std.specs.Prelude.{ℕ, ◌+◌, ◌≡◌, Bool, true, false, ◌&&◌, List, [], ◌∷◌, eqb}
use Rattle.base_words.specs.Blocks.{State}
use Rattle.base_words.specs.Each.{total}
use Rattle.base_words.specs.Pick.{if◌then◌or_else◌}
use Rattle.base_words.specs.Sum.{one_if}
use Rattle.base_state.specs.Instances.{queues_of}
use Rattle.meaning.specs.declared.Name.{Name}
use Rattle.meaning.specs.declared.Answer.{Answer}
use Rattle.meaning.specs.declared.Traffic.{Traffic}
use Rattle.meaning.specs.declared.Traffic.TheVariants.{Nothing, Consumed, Sent}
use Rattle.meaning.specs.declared.Tuple.{Tuple}
use Rattle.meaning.specs.Tuples.{empty, same_tuple}
use Rattle.meaning.specs.Messages.{times}
use Rattle.meaning.specs.Queues.{messages_of}
use Rattle.step_poll.specs.Items.{Act, a_step, a_post}
use Rattle.step_poll.specs.Poll.{Left, Stepped}
use Rattle.step_history.specs.declared.Accounts.{Accounts}
use Rattle.step_history.specs.declared.Moved.{Moved}
use Rattle.step_history.specs.declared.Noted.{Noted}

-- a call and the answer that it gave: a step, and its answer; a post by its name and tuple, and its number
pub data Entry : Type 0 where
  step_gave : Name → Answer → Entry
  post_gave : ℕ → Tuple → ℕ → Entry

-- WHO GAVE IT: by a way to do one step and one post, each call from the state that the earlier ones left; y is the last state
unfoldable pub GivenBy : (State → Name → Stepped) → (State → ℕ → Tuple → Left) → State → List Entry → State → Type 0
GivenBy step post z [] y = y ≡ z
GivenBy step post z (step_gave n a ∷ h) y = (a ≡ (step z n).answer) × GivenBy step post (step z n).state h y
GivenBy step post z (post_gave m g k ∷ h) y = (k ≡ (post z m g).number) × GivenBy step post (post z m g).state h y

-- one call and its answer, and the state that it leaves
unfoldable pub entry_by : (State → Name → Stepped) → (State → ℕ → Tuple → Left) → Act → State → Entry
entry_by step post (a_step n) z = step_gave n (step z n).answer
entry_by step post (a_post m g) z = post_gave m g (post z m g).number

unfoldable pub state_by : (State → Name → Stepped) → (State → ℕ → Tuple → Left) → Act → State → State
state_by step post (a_step n) z = (step z n).state
state_by step post (a_post m g) z = (post z m g).state

-- the history of calls in turn, and the state that they leave
unfoldable pub told_by : (State → Name → Stepped) → (State → ℕ → Tuple → Left) → List Act → State → List Entry
told_by step post [] z = []
told_by step post (a ∷ rest) z = entry_by step post a z ∷ told_by step post rest (state_by step post a z)

unfoldable pub left_by : (State → Name → Stepped) → (State → ℕ → Tuple → Left) → List Act → State → State
left_by step post [] z = z
left_by step post (a ∷ rest) z = left_by step post rest (state_by step post a z)

-- WHICH ENTRIES COUNT. "Tuples are equal as in document 01: length and the values within it." (RULES: steps)
unfoldable pub is_message : ℕ → Tuple → ℕ → Tuple → Bool
is_message m g name tuple = eqb name m && same_tuple tuple g

unfoldable pub is_consumed : Traffic → Bool
is_consumed Nothing = false
is_consumed Consumed = true
is_consumed Sent = false

unfoldable pub is_sent : Traffic → Bool
is_sent Nothing = false
is_sent Consumed = false
is_sent Sent = true

unfoldable pub is_accepted : Entry → Bool
is_accepted (step_gave n a) = eqb a.number 0
is_accepted (post_gave m g k) = eqb k 0

-- what the call did, if it was accepted
unfoldable pub as_posted : ℕ → Tuple → Entry → Bool
as_posted m g (step_gave n a) = false
as_posted m g (post_gave name tuple k) = is_message m g name tuple

unfoldable pub as_sent : ℕ → Tuple → Entry → Bool
as_sent m g (step_gave n a) = is_sent a.traffic && is_message m g a.name a.tuple
as_sent m g (post_gave name tuple k) = false

unfoldable pub as_consumed : ℕ → Tuple → Entry → Bool
as_consumed m g (step_gave n a) = is_consumed a.traffic && is_message m g a.name a.tuple
as_consumed m g (post_gave name tuple k) = false

unfoldable pub posts : ℕ → Tuple → Entry → Bool
posts m g e = is_accepted e && as_posted m g e

unfoldable pub sends : ℕ → Tuple → Entry → Bool
sends m g e = is_accepted e && as_sent m g e

unfoldable pub consumes : ℕ → Tuple → Entry → Bool
consumes m g e = is_accepted e && as_consumed m g e

-- which message an entry moved, whatever it is
unfoldable pub is_quiet : Traffic → Bool
is_quiet Nothing = true
is_quiet Consumed = false
is_quiet Sent = false

abbrev pub nothing_moved : Moved
nothing_moved = record { some = false; name = 0; tuple = empty }

unfoldable pub moved_by : Entry → Moved
moved_by (step_gave n a) = if eqb a.number 0 then (if is_quiet a.traffic then nothing_moved or_else record { some = true; name = a.name; tuple = a.tuple }) or_else nothing_moved
moved_by (post_gave m g k) = if eqb k 0 then record { some = true; name = m; tuple = g } or_else nothing_moved

-- both, of one entry
unfoldable pub entry_noted : ℕ → Tuple → Entry → Noted
entry_noted m g e = record { posted = one_if (posts m g e); sent = one_if (sends m g e); consumed = one_if (consumes m g e); moved = moved_by e }

-- THE FOUR NUMBERS
unfoldable pub how_many : (Entry → Bool) → List Entry → ℕ
how_many f h = total (λ e. one_if (f e)) h

unfoldable pub queued : ℕ → Tuple → State → ℕ
queued m g z = times g (messages_of (queues_of z) m)

unfoldable pub accounts_of : ℕ → Tuple → List Entry → State → Accounts
accounts_of m g h z = record { posted = how_many (posts m g) h; sent = how_many (sends m g) h; consumed = how_many (consumes m g) h; queued = queued m g z }

-- "posted + sent = queued + consumed" (RULES: steps)
unfoldable pub balances : Accounts → Bool
balances a = eqb (a.posted + a.sent) (a.queued + a.consumed)
