-- A WHOLE POLL, by a way to do one step or post: "the state is that of giving them one by one until the first refusal; the answer is how many were
-- accepted and that refusal's number, 0 if there was none". (RULES: poll)
use Rattle.std.specs.Prelude.{ℕ, ◌+◌, List, [], ◌∷◌, ◌++◌, eqb, ltb}
use Rattle.base_words.specs.Blocks.{Block, Table, State}
use Rattle.base_words.specs.Pick.{if◌then◌or_else◌}
use Rattle.base_state.specs.Instances.{instances_of, queues_of}
use Rattle.meaning.specs.declared.Name.{Name}
use Rattle.meaning.specs.declared.Tuple.{Tuple}
use Rattle.meaning.specs.declared.Answer.{Answer}
use Rattle.step_take.specs.Settled.{settled, posted}
use Rattle.step_poll.specs.Items.{Act, a_step, a_post, items_most, acts_in}

-- a number given back, and the state that is left
pub record Left : Type 0 where
  pub number : ℕ
  pub state : State

-- an answer given back, and the state that is left
pub record Stepped : Type 0 where
  pub answer : Answer
  pub state : State

pub record Polling : Type 0 where
  pub number : ℕ
  pub accepted : ℕ
  pub state : State

-- one accepted before the others
unfoldable pub one_before : Polling → Polling
one_before p = record { number = p.number; accepted = p.accepted + 1; state = p.state }

unfoldable pub polled_by : (Act → State → Left) → List Act → State → Polling
polled_by give [] z = record { number = 0; accepted = 0; state = z }
polled_by give (a ∷ rest) z =
    if eqb (give a z).number 0 then one_before (polled_by give rest (give a z).state)
    or_else record { number = (give a z).number; accepted = 0; state = (give a z).state }

-- "22 more than 64 items, checked first, nothing done; then 10, with no items too": right is 0, or the number that table and state are refused with (RULES: poll)
unfoldable pub polled_from : (Act → State → Left) → ℕ → Block → ℕ → State → Polling
polled_from give right w count z =
    if ltb items_most count then record { number = 22; accepted = 0; state = z }
    or_else if eqb right 0 then polled_by give (acts_in w count) z
    or_else record { number = right; accepted = 0; state = z }

-- a step and a post as the code makes them
unfoldable pub settled_step : Table → State → Name → Stepped
settled_step t z n =
    record {
      answer = (settled t (instances_of z) (queues_of z) n).answer;
      state = (settled t (instances_of z) (queues_of z) n).instances ++ (settled t (instances_of z) (queues_of z) n).queues;
    }

unfoldable pub settled_post : State → ℕ → Tuple → Left
settled_post z name g = record { number = (posted (queues_of z) name g).number; state = instances_of z ++ (posted (queues_of z) name g).queues }

unfoldable pub settled_act : Table → Act → State → Left
settled_act t (a_step n) z = record { number = (settled_step t z n).answer.number; state = (settled_step t z n).state }
settled_act t (a_post name g) z = settled_post z name g
