-- The public calls: what is lent is checked first, then the call of the layer below. z is a state, its instances and then its queues.
use Rattle.std.specs.Prelude.{ℕ, Bool, ◌&&◌, List, ◌++◌, eqb, ltb, length, drop}
use Rattle.base_words.specs.Blocks.{Bytes, Table, State}
use Rattle.base_words.specs.Pick.{if◌then◌or_else◌}
use Rattle.base_state.specs.Instances.{instances_of, queues_of, version_of}
use Rattle.base_state.specs.Versions.{is_version}
use Rattle.meaning.specs.declared.Name.{Name}
use Rattle.meaning.specs.declared.Tuple.{Tuple}
use Rattle.meaning.specs.declared.Traffic.TheVariants.{Nothing}
use Rattle.meaning.specs.Tuples.{empty}
use Rattle.meaning.specs.Step.{Outcome, step}
use Rattle.meaning.specs.Post.{post}
use Rattle.check_limits.specs.Limits.{table_fits}
use Rattle.check_model.specs.Checks.{lowest}
use Rattle.check_lowest.specs.Model.{model_of}
use Rattle.state_fits.specs.Fits.{state_fits}
use Rattle.state_fits.specs.Fresh.{fresh}
use Rattle.step_list.specs.declared.Listed.{Listed}
use Rattle.step_names.specs.Names.{blank_name}
use Rattle.step_list.specs.Listing.{listed, chosen}
use Rattle.step_run.specs.Run.{Run, ran}
use Rattle.write_shown.specs.Shown.{shown_table}
pub use Rattle.step_poll.specs.Poll.{Left, Stepped}
use Rattle.engine.specs.declared.Verdict.{Verdict}

-- a table that breaks no limit and no check
unfoldable pub valid : Table → Bool
valid t = table_fits t && eqb (lowest (model_of t)) 0

-- "The check of a lent table gives 10 for a broken limit or an unused place not 0, then 4", with the lowest check broken beside it (RULES: calls)
unfoldable pub verdict_of : Table → Verdict
verdict_of t =
    if table_fits t then
    if eqb (lowest (model_of t)) 0 then record { number = 0; beside = 0 } or_else record { number = 4; beside = lowest (model_of t) }
    or_else record { number = 10; beside = 0 }

-- "25 another version, asked for or in a state" (RULES: versions)
unfoldable pub version_number : ℕ → ℕ
version_number v = if is_version v then 0 or_else 25

-- "every other call gives 10 for all of these", 25 "after 10": of a lent table, for the version v that is asked for (RULES: versions)
unfoldable pub asked_number : Table → ℕ → ℕ
asked_number t v = if valid t then version_number v or_else 10

unfoldable pub freshened : Table → ℕ → State → Left
freshened t v z = if eqb (asked_number t v) 0 then record { number = 0; state = fresh t v } or_else record { number = asked_number t v; state = z }

-- of a lent table and state: "10: the table breaks a limit or check, or the state doesn't fit the table and the limits" (RULES: fits)
unfoldable pub lent_number : Table → State → ℕ
lent_number t z = if valid t && state_fits t (instances_of z) (queues_of z) then version_number (version_of (instances_of z)) or_else 10

unfoldable pub fitting : Table → State → Bool
fitting t z = eqb (lent_number t z) 0

unfoldable pub leaving : Outcome → Stepped
leaving o = record { answer = o.answer; state = o.instances ++ o.queues }

unfoldable pub stepped : Table → State → Name → Stepped
stepped t z n =
    if fitting t z then leaving (step t (instances_of z) (queues_of z) n)
    or_else record { answer = record { number = lent_number t z; traffic = Nothing; name = 0; tuple = empty }; state = z }

unfoldable pub posted_to : Table → State → ℕ → Tuple → Left
posted_to t z name g =
    if fitting t z then record { number = (post (queues_of z) name g).number; state = instances_of z ++ (post (queues_of z) name g).queues }
    or_else record { number = lent_number t z; state = z }

-- "6: listing: no accepted step with that ordinal"; 10 and 25 go before it (RULES: list)
unfoldable pub listed_at : Table → State → ℕ → Listed
listed_at t z k = if fitting t z then chosen (listed t (instances_of z) (queues_of z)) k or_else record { number = lent_number t z; name = blank_name }

-- a number given back, the steps taken, 1 or 0 for whether one is still accepted, and the state that is left
pub record RanTo : Type 0 where
  pub number : ℕ
  pub steps : ℕ
  pub left : ℕ
  pub state : State

unfoldable pub ended : Run → RanTo
ended r = record { number = 0; steps = r.steps; left = r.left; state = r.instances ++ r.queues }

unfoldable pub ran_to : Table → State → ℕ → RanTo
ran_to t z limit = if fitting t z then ended (ran t limit (instances_of z) (queues_of z)) or_else record { number = lent_number t z; steps = 0; left = 0; state = z }

-- "5: the writer's buffer is shorter than the text", and 10 goes before it; else the text, "and returns the length; the buffer's later bytes stay" (RULES: writing)
pub record WrittenTo : Type 0 where
  pub number : ℕ
  pub length : ℕ
  pub buffer : Bytes

unfoldable pub written : Bytes → Bytes → WrittenTo
written text out =
    if ltb (length out) (length text) then record { number = 5; length = 0; buffer = out }
    or_else record { number = 0; length = length text; buffer = text ++ drop (length text) out }

unfoldable pub written_to : Table → Bytes → WrittenTo
written_to t out = if valid t then written (shown_table t) out or_else record { number = 10; length = 0; buffer = out }
