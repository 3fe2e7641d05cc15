-- THE CALLS AS C HAS THEM: each block comes with its length in words. A wrong length is 10 before the block is looked at, and what was lent stays; else it is the call of `engine`.
use Rattle.std.specs.Prelude.{ℕ, ◌*◌, Bool, ◌&&◌, List, eqb, ltb}
use Rattle.base_words.specs.Blocks.{Records, Block, Bytes, Table, State}
use Rattle.base_words.specs.Pick.{if◌then◌or_else◌}
use Rattle.base_table.specs.Places.{table_words}
use Rattle.base_state.specs.Places.{state_words}
use Rattle.meaning.specs.declared.Name.{Name}
use Rattle.meaning.specs.declared.Answer.{Answer}
use Rattle.meaning.specs.declared.Tuple.{Tuple}
use Rattle.meaning.specs.declared.Traffic.{Traffic}
use Rattle.meaning.specs.declared.Traffic.TheVariants.{Nothing, Consumed, Sent}
use Rattle.meaning.specs.Tuples.{empty}
use Rattle.step_list.specs.declared.Listed.{Listed}
use Rattle.step_names.specs.Names.{blank_name}
use Rattle.text_read.specs.Notation.{ReadInto, read_into}
use Rattle.draw_read.specs.Drawings.{draw_into}
use Rattle.engine.specs.declared.Verdict.{Verdict}
use Rattle.engine.specs.Engine.{verdict_of, Left, freshened, Stepped, posted_to, listed_at, RanTo, WrittenTo, written_to}
use Rattle.step_poll.specs.Items.{item_words, items_most}
use Rattle.step_poll.specs.Poll.{Polling}
use Rattle.log_judge.specs.declared.Judged.{Judged}
use Rattle.state_figures.specs.Figures.{Figured}
use Rattle.engine.specs.Calls.{judged_to}
use Rattle.engine.specs.Desk.{AtDesk, stepped_at, ran_at, polled_at, figured_to}
use Rattle.engine.specs.Profile.{nested_of}
use Rattle.engine.specs.Replay.{Replayed, replayed_to, resumed_to}
use Rattle.cuttingvale.specs.declared.Taken.{Taken}

-- n words of a table and m words of a state
unfoldable pub are_whole : ℕ → ℕ → Bool
are_whole n m = eqb n table_words && eqb m state_words

unfoldable pub checked_by : Table → ℕ → Verdict
checked_by t n = if eqb n table_words then verdict_of t or_else record { number = 10; beside = 0 }

unfoldable pub freshened_by : Table → ℕ → ℕ → State → ℕ → Left
freshened_by t n v z m = if are_whole n m then freshened t v z or_else record { number = 10; state = z }

-- what a step did to the queues, as a number
unfoldable pub traffic_number : Traffic → ℕ
traffic_number Nothing = 0
traffic_number Consumed = 1
traffic_number Sent = 2

-- an answer given back, and the state that is left
pub record TakenTo : Type 0 where
  pub answer : Taken
  pub state : State

unfoldable pub told_to_c : Stepped → TakenTo
told_to_c s =
    record {
      answer = record { number = s.answer.number; traffic = traffic_number s.answer.traffic; name = s.answer.name; tuple = s.answer.tuple };
      state = s.state;
    }

unfoldable pub told_at : AtDesk Stepped → AtDesk TakenTo
told_at s = record { done = told_to_c s.done; records = s.records }

-- the pool records rs come with their number, which the call itself looks at
unfoldable pub stepped_by : Table → ℕ → State → ℕ → Records → Name → AtDesk TakenTo
stepped_by t n z m rs name =
    if are_whole n m then told_at (stepped_at t z rs name)
    or_else record { done = record { answer = record { number = 10; traffic = 0; name = 0; tuple = empty }; state = z }; records = rs }

unfoldable pub posted_by : Table → ℕ → State → ℕ → ℕ → Tuple → Left
posted_by t n z m name g = if are_whole n m then posted_to t z name g or_else record { number = 10; state = z }

unfoldable pub listed_by : Table → ℕ → State → ℕ → ℕ → Listed
listed_by t n z m k = if are_whole n m then listed_at t z k or_else record { number = 10; name = blank_name }

unfoldable pub ran_lent : Table → ℕ → State → ℕ → Records → ℕ → AtDesk RanTo
ran_lent t n z m rs limit =
    if are_whole n m then ran_at t z rs limit or_else record { done = record { number = 10; steps = 0; left = 0; state = z }; records = rs }

unfoldable pub figured_by : Table → ℕ → State → ℕ → Records → Figured
figured_by t n z m rs = if are_whole n m then figured_to t z rs or_else record { number = 10; records = rs }

unfoldable pub read_by : Bytes → Table → ℕ → ReadInto
read_by text t n = if eqb n table_words then read_into text t or_else record { number = 10; beside = 0; table = t }

unfoldable pub drawn_by : Bytes → Table → ℕ → ReadInto
drawn_by text t n = if eqb n table_words then draw_into text t or_else record { number = 10; beside = 0; table = t }

unfoldable pub written_by : Table → ℕ → Bytes → WrittenTo
written_by t n out = if eqb n table_words then written_to t out or_else record { number = 10; length = 0; buffer = out }

abbrev pub poll_words : ℕ
poll_words = item_words * items_most

-- k words of items too; where a length is wrong, 22 goes before 10 as in the call itself
unfoldable pub are_lent : ℕ → ℕ → ℕ → Bool
are_lent n m k = eqb k poll_words && are_whole n m

unfoldable pub lent_wrong : ℕ → ℕ
lent_wrong count = if ltb items_most count then 22 or_else 10

unfoldable pub polled_lent : Table → ℕ → State → ℕ → Records → Block → ℕ → ℕ → AtDesk Polling
polled_lent t n z m rs w k count =
    if are_lent n m k then polled_at t z rs w count or_else record { done = record { number = lent_wrong count; accepted = 0; state = z }; records = rs }

unfoldable pub judged_lent : Table → ℕ → ℕ → Bytes → Judged
judged_lent t n v log = if eqb n table_words then judged_to t v log or_else record { number = 10; beside = 0; own = 0 }

unfoldable pub replayed_by : Table → ℕ → ℕ → Bytes → State → ℕ → Replayed
replayed_by t n v log z m = if are_whole n m then replayed_to t v log z or_else record { answer = record { number = 10; beside = 0; own = 0 }; state = z }

unfoldable pub resumed_by : Table → ℕ → State → ℕ → Bytes → Replayed
resumed_by t n z m log = if are_whole n m then resumed_to t z log or_else record { answer = record { number = 10; beside = 0; own = 0 }; state = z }

-- a step's answer as C has it, back: another number than 1 and 2 is nothing
unfoldable pub traffic_by : ℕ → Traffic
traffic_by n = if eqb n 1 then Consumed or_else if eqb n 2 then Sent or_else Nothing

unfoldable pub answer_to_c : Taken → Answer
answer_to_c a = record { number = a.number; traffic = traffic_by a.traffic; name = a.name; tuple = a.tuple }

unfoldable pub nested_by : Table → ℕ → Verdict
nested_by t n = if eqb n table_words then nested_of t or_else record { number = 10; beside = 0 }
