-- FIGURES FOR THE ROUTE DESK: the calls that take steps, with the list of pool records rs that the desk lends; t is a table, z a state.
use Rattle.std.specs.Prelude.{ℕ, List, eqb, ltb}
use Rattle.base_words.specs.Blocks.{Records, Block, Table, State}
use Rattle.base_words.specs.Pick.{if◌then◌or_else◌}
use Rattle.base_state.specs.Instances.{instances_of}
use Rattle.meaning.specs.declared.Name.{Name}
use Rattle.meaning.specs.declared.Traffic.TheVariants.{Nothing}
use Rattle.meaning.specs.Tuples.{empty}
use Rattle.state_figures.specs.Figures.{counted, desk_number, Figured, figured}
use Rattle.step_poll.specs.Items.{items_most}
use Rattle.step_poll.specs.Poll.{Polling}
use Rattle.engine.specs.Engine.{lent_number, Stepped, stepped, RanTo, ran_to}
use Rattle.engine.specs.Calls.{polled_to}

-- "26 the number of records isn't the number of pools, or they don't agree with the state at entry, after 10", and after 25 (RULES: figures)
unfoldable pub records_number : Table → State → Records → ℕ
records_number t z rs = desk_number (lent_number t z) rs t (instances_of z)

-- what a call returns with the state that it leaves, and the records that it leaves
pub record AtDesk (A : Type 0) : Type 0 where
  pub done : A
  pub records : Records

-- k is the number that refuses what is lent: where it is 0 the call, x what it does and y the state that it leaves, and "they always equal what a count over the state gives"; else r, and the records stay (RULES: figures)
unfoldable pub at_desk : {A : Type 0} → ℕ → Block → A → List ℕ → A → List (List ℕ) → AtDesk A
at_desk k t x y r rs = if eqb k 0 then record { done = x; records = counted t (instances_of y) } or_else record { done = r; records = rs }

-- A STEP: 10, 25, 26, then 11 to 18
unfoldable pub stepped_at : Table → State → Records → Name → AtDesk Stepped
stepped_at t z rs n =
    at_desk (records_number t z rs) t (stepped t z n) (stepped t z n).state
    (record { answer = record { number = records_number t z rs; traffic = Nothing; name = 0; tuple = empty }; state = z }) rs

-- A RUN: 10, 25, 26
unfoldable pub ran_at : Table → State → Records → ℕ → AtDesk RanTo
ran_at t z rs limit =
    at_desk (records_number t z rs) t (ran_to t z limit) (ran_to t z limit).state
    (record { number = records_number t z rs; steps = 0; left = 0; state = z }) rs

-- A WHOLE POLL: 22, 10, 25, 26, then its items; the records are those of the accepted part
unfoldable pub poll_number : Table → State → Records → ℕ → ℕ
poll_number t z rs count = if ltb items_most count then 22 or_else records_number t z rs

unfoldable pub polled_at : Table → State → Records → Block → ℕ → AtDesk Polling
polled_at t z rs w count =
    at_desk (poll_number t z rs count) t (polled_to t z w count) (polled_to t z w count).state
    (record { number = poll_number t z rs count; accepted = 0; state = z }) rs

-- THE COUNT ITSELF, for records that hold anything: 10, 25, then 26 where they are not as many as the pools
unfoldable pub figured_to : Table → State → Records → Figured
figured_to t z rs = figured (lent_number t z) rs t (instances_of z)
