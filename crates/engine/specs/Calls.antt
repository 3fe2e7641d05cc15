-- CALLS ONE AFTER THE OTHER: t is a table, z a state.
use Rattle.std.specs.Prelude.{ℕ, ◌≡◌, Bool, true, ◌&&◌, List, [], ◌∷◌, eqb, length}
use Rattle.base_words.specs.Blocks.{Block, Bytes, Table, State}
use Rattle.base_words.specs.Pick.{if◌then◌or_else◌}
use Rattle.base_state.specs.Places.{state_words}
use Rattle.meaning.specs.declared.Name.{Name}
use Rattle.meaning.specs.declared.Tuple.{Tuple}
use Rattle.state_fits.specs.Fresh.{fresh}
use Rattle.log_judge.specs.declared.Judged.{Judged}
use Rattle.log_judge.specs.Judge.{judgment, line_taken, judged_from}
use Rattle.engine.specs.Engine.{Left, asked_number, fitting, lent_number, stepped, posted_to}
pub use Rattle.step_poll.specs.Items.{Act, a_step, a_post}
use Rattle.step_poll.specs.Poll.{Polling, polled_from}

-- the number that the public call gives back, and the state that it leaves
unfoldable pub did : Table → Act → State → Left
did t (a_step n) z = record { number = (stepped t z n).answer.number; state = (stepped t z n).state }
did t (a_post name g) z = posted_to t z name g

-- each judged in the state that the earlier ones left: their numbers, whether all are accepted, the state after them
unfoldable pub numbers : Table → List Act → State → List ℕ
numbers t [] z = []
numbers t (a ∷ rest) z = (did t a z).number ∷ numbers t rest (did t a z).state

unfoldable pub all_accepted : Table → List Act → State → Bool
all_accepted t [] z = true
all_accepted t (a ∷ rest) z = eqb (did t a z).number 0 && all_accepted t rest (did t a z).state

unfoldable pub after : Table → List Act → State → State
after t [] z = z
after t (a ∷ rest) z = after t rest (did t a z).state

-- "valid states of one model": as long as the type of a lent state says, it fits its valid table, and its version is one that there is
pub record Valid (t z : List ℕ) : Type 0 where
  pub long : length z ≡ state_words
  pub fits : fitting t z ≡ true

-- A WHOLE POLL out of the lent words w: "22 more than 64 items, checked first, nothing done; then 10, with no items too", and 25, else one by one until the
-- first refusal (RULES: poll)
unfoldable pub polled_to : Table → State → Block → ℕ → Polling
polled_to t z w count = polled_from (did t) (lent_number t z) w count z

-- WHETHER A LOG'S RUN WAS LAWFUL: "every step and post is accepted in turn from the fresh state, and what each line says was sent or consumed is true"; "a log is judged under the version its caller names";
-- 10 and 25 go before 23 and 24 (RULES: lawful)
unfoldable pub judged_to : Table → ℕ → Bytes → Judged
judged_to t v log =
    if eqb (asked_number t v) 0 then judged_from (line_taken (stepped t) (posted_to t)) log (fresh t v) or_else judgment (asked_number t v) 0 0
