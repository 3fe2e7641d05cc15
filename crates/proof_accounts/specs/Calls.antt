-- RUNS AND POLLS IN A HISTORY: "a batch stands in the history as its items given one by one up to the first refused one", a run as its steps. t is a table, z a state. (RULES: accounts)
use Rattle.std.specs.Prelude.{ℕ, ◌+◌, List, [], ◌∷◌, ◌++◌, ltb, take}
use Rattle.base_words.specs.Pick.{if◌then◌or_else◌}
use Rattle.step_poll.specs.Items.{items_most, acts_in}
use Rattle.step_history.specs.History.{Entry, told_by}
use Rattle.engine.specs.Engine.{stepped, posted_to, ran_to}
use Rattle.engine.specs.Calls.{Act, did, polled_to}
use Rattle.proof_demands.specs.Demands.{run_steps}

-- a call that changes a state
pub data Call : Type 0 where
  an_act : Act → Call
  a_run : ℕ → Call
  a_poll : List ℕ → ℕ → Call

-- the state that it leaves
unfoldable pub state_after : List ℕ → Call → List ℕ → List ℕ
state_after t (an_act a) z = (did t a z).state
state_after t (a_run limit) z = (ran_to t z limit).state
state_after t (a_poll w count) z = (polled_to t z w count).state

-- the steps and posts that it stands for; more than 64 items are none
unfoldable pub acts_of : List ℕ → Call → List ℕ → List Act
acts_of t (an_act a) z = a ∷ []
acts_of t (a_run limit) z = run_steps t limit z
acts_of t (a_poll w count) z = if ltb items_most count then [] or_else take ((polled_to t z w count).accepted + 1) (acts_in w count)

-- of calls in turn: the history, and the last state
unfoldable pub history_of : List ℕ → List Call → List ℕ → List Entry
history_of t [] z = []
history_of t (c ∷ rest) z = told_by (stepped t) (posted_to t) (acts_of t c z) z ++ history_of t rest (state_after t c z)

unfoldable pub last_state : List ℕ → List Call → List ℕ → List ℕ
last_state t [] z = z
last_state t (c ∷ rest) z = last_state t rest (state_after t c z)
