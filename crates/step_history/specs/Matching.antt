-- NOTHING IS USED TWICE: each message that was consumed is one that a call before had posted or sent, and no two are the same. Places of a history are counted from 0.
use Rattle.std.specs.Prelude.{ℕ, zero, suc, ◌+◌, ◌<◌, ◌≡◌, Bool, true, false, ◌||◌, List, [], ◌∷◌, take, drop}
use Rattle.base_words.specs.Pick.{if◌then◌or_else◌}
use Rattle.meaning.specs.declared.Tuple.{Tuple}
use Rattle.step_history.specs.History.{Entry, step_gave, post_gave, posts, sends, consumes, how_many}

-- the call posted the message, or sent it
unfoldable pub brings : ℕ → Tuple → Entry → Bool
brings m g e = posts m g e || sends m g e

-- whether f holds of the entry at place i
unfoldable pub holds_at : (Entry → Bool) → ℕ → List Entry → Bool
holds_at f i [] = false
holds_at f zero (e ∷ h) = f e
holds_at f (suc i) (e ∷ h) = holds_at f i h

-- the place of the k-th entry, from 0, of which f holds
unfoldable pub place_among : (Entry → Bool) → ℕ → List Entry → ℕ
place_among f k [] = 0
place_among f zero (e ∷ h) = if f e then 0 or_else place_among f zero h + 1
place_among f (suc k) (e ∷ h) = if f e then place_among f k h + 1 or_else place_among f (suc k) h + 1

-- an accepted step that consumes, whatever the message
unfoldable pub consumes_own : Entry → Bool
consumes_own (step_gave n a) = consumes a.name a.tuple (step_gave n a)
consumes_own (post_gave m g k) = false

-- WHERE IT CAME FROM: "Consuming removes the oldest equal message", so that the k-th consumed is the k-th that was brought; i is the place of the step, the rest what stands from there on (RULES: steps)
unfoldable pub source_in : List Entry → ℕ → List Entry → ℕ
source_in h i [] = 0
source_in h i (step_gave n a ∷ rest) = place_among (brings a.name a.tuple) (how_many (consumes a.name a.tuple) (take i h)) h
source_in h i (post_gave m g k ∷ rest) = 0

unfoldable pub source_of : List Entry → ℕ → ℕ
source_of h i = source_in h i (drop i h)

pub record Matched (h : List Entry) (source : ℕ → ℕ) : Type 0 where
  -- it stands before the step that consumed it, and its call posted or sent an equal message
  pub earlier : (m : ℕ) (g : Tuple) (i : ℕ) → holds_at (consumes m g) i h ≡ true → (source i < i) × (holds_at (brings m g) (source i) h ≡ true)
  -- two steps never consume one
  pub once : (i j : ℕ) → holds_at consumes_own i h ≡ true → holds_at consumes_own j h ≡ true → source i ≡ source j → i ≡ j
