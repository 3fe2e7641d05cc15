-- A step changes only the words of the instance that it names, the stores, how many instances its pool has made, and the one queue that it receives
-- from or sends to. Assumes nothing.
use Prim.Native.Nat.{ℕ, ◌+◌, ◌≤◌, ◌<◌}
use mathlib.Core.Path.{◌≡◌, refl, ◌∙◌}
use mathlib.Core.List.{List}
use mathlib.Core.Logic.{◌⊎◌, inl, inr, ⊎_elim}
use native.Mathlib.Omega.{arith}
use lib.ListN.{length, set, length-set}
use lib.Seq.{get_or-set_same, get_or-set_other}
use Rattle.base_words.specs.Words.{at}
use Rattle.base_words.specs.Writes.{writes}
use Rattle.base_words.specs.Counts.{messages}
use Rattle.base_words.proofs.WritesLaws.{length-writes, writes_in, writes_below, writes_above}
use Rattle.base_state.specs.Places.{instance_words, made_place, instance_place, store_words, shared_place, version_at, queue_words, queue_place}
use Rattle.base_state.specs.Instances.{made_count, version_of}
use Rattle.meaning.specs.declared.Name.{Name}
use Rattle.meaning.specs.Messages.{appended, without}
use Rattle.meaning.specs.Queues.{message_count, messages_of}
use Rattle.meaning.specs.Step.{Site, site_of, pool_named, message_named, sent, instance_after, made_after, instances_after, queues_after}
use Rattle.step_queues.proofs.ReadLaws.{words_other, messages_other}
use Rattle.proof_steps.proofs.QueuesAfter.{by_queues}

-- f 0 to f (n - 1) stored from place a on, g 0 to g (l - 1) from place b on, then v at place m
module _ (f g : ℕ → ℕ) (s : List ℕ) (a n b l m v : ℕ) where
  abbrev first : List ℕ
  first = writes f s a n

  abbrev second : List ℕ
  second = writes g first b l

  abbrev stored : List ℕ
  stored = set second m v

  second_length : length second ≡ length s
  second_length = length-writes g first b l ∙ length-writes f s a n

  stored_length : length stored ≡ length s
  stored_length = length-set second m v ∙ second_length

  stored_other : (k : ℕ) → (k < a) ⊎ (a + n ≤ k) → (k < b) ⊎ (b + l ≤ k) → (k ≡ m → ⊥) → at stored k ≡ at s k
  stored_other k o r ne =
      get_or-set_other second m k v 0 ne ∙ ⊎_elim (writes_below g first b l k) (writes_above g first b l k) r ∙ ⊎_elim (writes_below f s a n k) (writes_above f s a n k) o

  stored_in : m < a → a + n ≤ b → b ≤ length s → (k : ℕ) → k < n → at stored (a + k) ≡ f k
  stored_in i o r k h =
      get_or-set_other second m (a + k) v 0 (λ e. omega arith) ∙ writes_below g first b l (a + k) (omega arith) ∙ writes_in f s a n k h (omega arith)

  stored_behind : m < b → b + l ≤ length s → (k : ℕ) → k < l → at stored (b + k) ≡ g k
  stored_behind i r k h = get_or-set_other second m (b + k) v 0 (λ e. omega arith) ∙ writes_in g first b l k h (omega (arith, length-writes f s a n))

  stored_made : m < length s → at stored m ≡ v
  stored_made i = get_or-set_same second m v 0 (omega (arith, second_length))

module _ (t s : List ℕ) (n : Name) where
  abbrev own_place : ℕ
  own_place = instance_place (pool_named t n) n.instance

  abbrev after : List ℕ
  after = instance_after (site_of t s n)

  pub length_after : length (instances_after t s n) ≡ length s
  unfolding instances_after
  length_after = stored_length (at after) (λ k. at after (instance_words + k)) s own_place instance_words shared_place store_words (pool_named t n) (made_after (site_of t s n))

  -- a word of no part of it
  pub untouched : (k : ℕ) → (k < own_place) ⊎ (own_place + instance_words ≤ k) → (k < shared_place) ⊎ (shared_place + store_words ≤ k) → (k ≡ made_place (pool_named t n) → ⊥)
      → at (instances_after t s n) k ≡ at s k
  unfolding instances_after
  untouched = stored_other (at after) (λ k. at after (instance_words + k)) s own_place instance_words shared_place store_words (pool_named t n) (made_after (site_of t s n))

  -- a word of the instances that is not its own
  pub only_own : (k : ℕ) → k < shared_place → (k < own_place) ⊎ (own_place + instance_words ≤ k) → (k ≡ made_place (pool_named t n) → ⊥) → at (instances_after t s n) k ≡ at s k
  only_own k l o ne = untouched k o (inl l) ne

  -- its own words, the stores, and how many are made
  pub own_words : pool_named t n < own_place → own_place + instance_words ≤ shared_place → shared_place ≤ length s → (k : ℕ) → k < instance_words
      → at (instances_after t s n) (own_place + k) ≡ at after k
  unfolding instances_after
  own_words = stored_in (at after) (λ k. at after (instance_words + k)) s own_place instance_words shared_place store_words (pool_named t n) (made_after (site_of t s n))

  pub own_stores : pool_named t n < shared_place → shared_place + store_words ≤ length s → (k : ℕ) → k < store_words
      → at (instances_after t s n) (shared_place + k) ≡ at after (instance_words + k)
  unfolding instances_after
  own_stores = stored_behind (at after) (λ k. at after (instance_words + k)) s own_place instance_words shared_place store_words (pool_named t n) (made_after (site_of t s n))

  pub own_made : pool_named t n < length s → made_count (instances_after t s n) (pool_named t n) ≡ made_after (site_of t s n)
  unfolding instances_after
  own_made = stored_made (at after) (λ k. at after (instance_words + k)) s own_place instance_words shared_place store_words (pool_named t n) (made_after (site_of t s n))

  -- the version is as it was
  pub same_version : pool_named t n < shared_place → own_place + instance_words ≤ shared_place → version_of (instances_after t s n) ≡ version_of s
  same_version l o = untouched version_at (inr (omega arith)) (inr (omega arith)) (λ e. omega arith)

module _ (x : Site) (q : List ℕ) (m : ℕ) (other : m ≡ message_named x → ⊥) where
  -- another queue: its words, and its messages
  pub only_queue : (i : ℕ) → i < queue_words → at (queues_after x q) (queue_place m + i) ≡ at q (queue_place m + i)
  only_queue i h =
      by_queues x q (λ r. at r (queue_place m + i) ≡ at q (queue_place m + i))
      (λ e. words_other q (message_named x) (without x.given (messages_of q (message_named x))) m other i h)
      (λ e. words_other q (message_named x) (appended (messages_of q (message_named x)) (sent x).tuple) m other i h)
      refl

  pub only_messages : message_count q m ≤ messages → messages_of (queues_after x q) m ≡ messages_of q m
  only_messages room =
      by_queues x q (λ r. messages_of r m ≡ messages_of q m)
      (λ e. messages_other q (message_named x) (without x.given (messages_of q (message_named x))) m other room)
      (λ e. messages_other q (message_named x) (appended (messages_of q (message_named x)) (sent x).tuple) m other room)
      refl
