-- EVERY REQUEST ACCOUNTED FOR, over the public calls: t is a table, h a history, z and y states.
use Rattle.std.specs.Prelude.{ℕ, ◌+◌, ◌≤◌, ◌<◌, ◌≡◌, true, List, ◌⊎◌}
use Rattle.base_words.specs.Words.{at}
use Rattle.base_words.specs.Counts.{pools, instances}
use Rattle.base_kinds.specs.Kinds.{start_rcv}
use Rattle.base_table.specs.Places.{pool_place}
use Rattle.base_table.specs.Table.{pool_count, limit_of, kind_in, element_at}
use Rattle.base_state.specs.Places.{instance_words, instance_place}
use Rattle.base_state.specs.Instances.{instances_of, made_count}
use Rattle.base_state.specs.Versions.{is_version}
use Rattle.meaning.specs.declared.Name.{Name}
use Rattle.meaning.specs.declared.Tuple.{Tuple}
use Rattle.state_fits.specs.Fresh.{fresh}
use Rattle.step_history.specs.History.{Entry, GivenBy, accounts_of, balances}
use Rattle.step_history.specs.Matching.{source_of, Matched}
use Rattle.engine.specs.Engine.{valid, stepped, posted_to}

-- given by the public calls, each answer the one that the call gives in the state that the earlier ones left
abbrev pub Given : List ℕ → List ℕ → List Entry → List ℕ → Type 0
Given t z h y = GivenBy (stepped t) (posted_to t) z h y

-- "from the fresh state of a valid table in either version, refused ones among them" (RULES: accounts)
pub record FromFresh (t : List ℕ) (v : ℕ) (h : List Entry) (y : List ℕ) : Type 0 where
  pub table : valid t ≡ true
  pub version : is_version v ≡ true
  pub given : Given t (fresh t v) h y

-- ONE INSTANCE. The step n belongs to instance i of the pool at place p: the pool has the number that the step names, and i is the instance named, one of those made after it
pub record Belongs (t : List ℕ) (n : Name) (y : List ℕ) (p i : ℕ) : Type 0 where
  pub pool : p < pool_count t
  pub number : at t (pool_place p) ≡ n.pool
  pub instance : i ≡ n.instance
  pub there : i < made_count (instances_of y) p

-- one that was made before; "for startRcv the one it makes" (RULES: accounts)
unfoldable pub Stood : List ℕ → Name → ℕ → ℕ → Type 0
Stood t n before after = (n.instance < before) × (after ≡ before)

unfoldable pub Made : List ℕ → Name → ℕ → ℕ → ℕ → Type 0
Made t n p before after = (kind_in (element_at t p n.element) ≡ start_rcv) × (n.instance ≡ before) × (after ≡ before + 1)

-- from z to y: it belongs to exactly one, and no word of another instance differs
pub record OneInstance (t : List ℕ) (n : Name) (z y : List ℕ) (p : ℕ) : Type 0 where
  pub belongs : Belongs t n y p n.instance
  pub only : (o i : ℕ) → Belongs t n y o i → (o ≡ p) × (i ≡ n.instance)
  pub origin : Stood t n (made_count (instances_of z) p) (made_count (instances_of y) p) ⊎ Made t n p (made_count (instances_of z) p) (made_count (instances_of y) p)
  pub others : (o i : ℕ) → o < pools → i < instances → (o ≡ p → i ≡ n.instance → ⊥) → (k : ℕ) → k < instance_words
      → at (instances_of y) (instance_place o i + k) ≡ at (instances_of z) (instance_place o i + k)

-- WHAT IS CLAIMED of a history and its last state
pub record Accounted (t : List ℕ) (h : List Entry) (y : List ℕ) : Type 0 where
  -- "for each name and tuple: posted + sent = queued + consumed" (RULES: accounts)
  pub balanced : (m : ℕ) (g : Tuple) → balances (accounts_of m g h y) ≡ true
  -- "nothing gets lost or used twice" (RULES: accounts)
  pub matched : Matched h (source_of h)
  -- "no pool has more instances than its limit" (RULES: accounts)
  pub limited : (p : ℕ) → p < pool_count t → made_count (instances_of y) p ≤ limit_of t p
