-- WHAT A NESTED POOL GIVES, over the public calls: t is a table, z a state, p the place of a pool in the text, i of an instance.
use Rattle.std.specs.Prelude.{ℕ, ◌+◌, ◌≤◌, ◌<◌, ◌≡◌, true, false, List, [], ◌∷◌, drop}
use Rattle.base_words.specs.Words.{at}
use Rattle.base_words.specs.Counts.{edges, tasks}
use Rattle.base_table.specs.Places.{pool_place}
use Rattle.base_state.specs.Instances.{instances_of, made_count, instance_at, tokens, active_count, ready_count}
use Rattle.state_figures.specs.Figures.{is_finished}
use Rattle.meaning.specs.declared.Name.{Name}
use Rattle.meaning.specs.declared.Tuple.{Tuple}
use Rattle.meaning.specs.Step.{pool_named}
use Rattle.step_poll.specs.Items.{acts_in}
use Rattle.proof_demands.specs.Demands.{is_one_of}
use Rattle.engine.specs.Engine.{stepped}
use Rattle.engine.specs.Calls.{Act, a_step, polled_to}

-- the name of a step of instance i of pool p
abbrev pub name_of : List ℕ → ℕ → ℕ → ℕ → ℕ → ℕ → Tuple → Name
name_of t p i element phase branch g = record { pool = at t (pool_place p); instance = i; element = element; phase = phase; branch = branch; given = g }

-- what is left of the numbers of a step: condition, values, message or room in a queue
abbrev pub otherwise : List ℕ
otherwise = 0 ∷ 13 ∷ 14 ∷ 15 ∷ 17 ∷ []

-- TOKENS PERMIT A STEP of instance i, whatever the values given: it is there (not 10, 11, 25), it is not refused for want of tokens (12), an instance (16) or room on an edge (18)
pub record GoesOn (t z : List ℕ) (p i : ℕ) : Type 0 where
  pub element : ℕ
  pub phase : ℕ
  pub branch : ℕ
  pub number : (g : Tuple) → is_one_of otherwise (stepped t z (name_of t p i element phase branch g)).answer.number ≡ true

pub record Safe (t z : List ℕ) (p : ℕ) : Type 0 where
  -- "no edge holds more than one token in an instance, each task's two counts together are at most 1" (RULES: calls)
  pub one_token : (i : ℕ) → i < made_count (instances_of z) p → (e : ℕ) → 1 ≤ e → e ≤ edges → tokens (instance_at (instances_of z) p i) e ≤ 1
  pub one_count : (i : ℕ) → i < made_count (instances_of z) p → (n : ℕ) → 1 ≤ n → n ≤ tasks → active_count (instance_at (instances_of z) p i) n + ready_count (instance_at (instances_of z) p i) n ≤ 1
  -- "and refusal 18 never occurs", nor at the item of a poll that is refused (RULES: calls)
  pub never_18 : (n : Name) → pool_named t n ≡ p → (stepped t z n).answer.number ≡ 18 → ⊥
  pub never_in_poll : (w : List ℕ) (count : ℕ) (n : Name) (rest : List Act) → pool_named t n ≡ p
      → drop (polled_to t z w count).accepted (acts_in w count) ≡ a_step n ∷ rest → (polled_to t z w count).number ≡ 18 → ⊥
  -- an instance that is not finished does not die for want of tokens
  pub goes_on : (i : ℕ) → i < made_count (instances_of z) p → is_finished (instance_at (instances_of z) p i) ≡ false → GoesOn t z p i
