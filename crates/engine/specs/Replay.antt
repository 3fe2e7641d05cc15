-- THE STATE THAT A LOG LEAVES: the run that it tells is judged, and where it was lawful the state is the one that its last event left; else what was lent stays.
use Rattle.std.specs.Prelude.{ℕ, List, eqb}
use Rattle.base_words.specs.Blocks.{Bytes, Table, State}
use Rattle.base_words.specs.Pick.{if◌then◌or_else◌}
use Rattle.state_fits.specs.Fresh.{fresh}
use Rattle.log_text.specs.Logs.{lines_of}
use Rattle.log_judge.specs.declared.Judged.{Judged}
use Rattle.log_judge.specs.Judge.{line_taken, judgment, judged_from, left_by_lines}
use Rattle.engine.specs.Engine.{lent_number, fitting, stepped, posted_to}
use Rattle.engine.specs.Calls.{judged_to}

pub record Replayed : Type 0 where
  pub answer : Judged
  pub state : State

-- y is the state that the lines leave, z the one that was lent
unfoldable pub kept_by : Judged → State → State → Replayed
kept_by j y z = if eqb j.number 0 then record { answer = j; state = y } or_else record { answer = j; state = z }

-- the lines of a log one after the other, by the public calls
unfoldable pub left_to : Table → Bytes → State → State
left_to t log z = left_by_lines (line_taken (stepped t) (posted_to t)) (lines_of log) z

-- FROM THE FRESH STATE of a version: 10, 25, 23 and 24 as `judgedTo` gives them
unfoldable pub replayed_to : Table → ℕ → Bytes → State → Replayed
replayed_to t v log z = kept_by (judged_to t v log) (left_to t log (fresh t v)) z

-- FROM THE STATE THAT IS LENT: 10 and 25 of table and state, then 23 and 24
unfoldable pub resumed_to : Table → State → Bytes → Replayed
resumed_to t z log =
    if fitting t z then kept_by (judged_from (line_taken (stepped t) (posted_to t)) log z) (left_to t log z) z
    or_else record { answer = judgment (lent_number t z) 0 0; state = z }
