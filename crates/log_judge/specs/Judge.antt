-- WHETHER A RUN WAS LAWFUL, by a way to do one step and one post: "accept the log exactly when every step and post is accepted in turn from the fresh state, and what each line says was sent or consumed is
-- true. Otherwise name the first event at fault." z is a state, w an event's line. (RULES: lawful)
use Rattle.xml_skip.specs.Skipping.{Reached}
use Rattle.std.specs.Prelude.{ℕ, ◌+◌, Bool, true, List, [], ◌∷◌, eqb, Ok, Err}
use Rattle.base_words.specs.Blocks.{Bytes, State}
use Rattle.base_words.specs.Pick.{if◌then◌or_else◌}
use Rattle.meaning.specs.declared.Name.{Name}
use Rattle.meaning.specs.declared.Tuple.{Tuple}
use Rattle.base_bytes.specs.Bytes.{same_bytes}
use Rattle.step_poll.specs.Poll.{Left, Stepped}
use Rattle.write_lines.specs.Lines.{step_line}
use Rattle.log_lines.specs.declared.Entry.{Entry}
use Rattle.log_lines.specs.Entries.{entry_of}
use Rattle.log_text.specs.Logs.{scan, lines_of}
use Rattle.log_judge.specs.declared.Judged.{Judged}

-- the number given back, whether the line is true, and the state that is left
pub record Taking : Type 0 where
  pub number : ℕ
  pub right : Bool
  pub state : State

-- "a post is posted", and its line says no more; a step's line says "what was sent or consumed (sign, name, values)" (RULES: lawful)
unfoldable pub taken_by : (State → Name → Stepped) → (State → ℕ → Tuple → Left) → Entry → Bytes → State → Taking
taken_by step post e w z =
    if e.posts then
    record { number = (post z e.name.pool e.name.given).number; right = true; state = (post z e.name.pool e.name.given).state }
    or_else
    record { number = (step z e.name).answer.number; right = same_bytes (step_line e.name (step z e.name).answer) w; state = (step z e.name).state }

unfoldable pub line_taken : (State → Name → Stepped) → (State → ℕ → Tuple → Left) → Bytes → State → Taking
line_taken step post w z = taken_by step post (entry_of w) w z

abbrev pub judgment : ℕ → ℕ → ℕ → Judged
judgment number beside own = record { number = number; beside = beside; own = own }

abbrev pub lawful : Judged
lawful = judgment 0 0 0

-- "24 event at fault, with its ordinal from 0 and the step's own number, or 0 where only the text is untrue"; k events are before these (RULES: lawful)
unfoldable pub judged_by : (Bytes → State → Taking) → List (List ℕ) → ℕ → State → Judged
judged_by take [] k z = lawful
judged_by take (w ∷ rest) k z =
    if eqb (take w z).number 0 then
    if (take w z).right then judged_by take rest (k + 1) (take w z).state or_else judgment 24 k 0
    or_else judgment 24 k (take w z).number

-- the state that the lines leave, one after the other
unfoldable pub left_by_lines : (Bytes → State → Taking) → List (List ℕ) → State → State
left_by_lines take [] z = z
left_by_lines take (w ∷ rest) z = left_by_lines take rest (take w z).state

-- "23 is over the whole text and goes before 24, whatever its events say" (RULES: lawful)
unfoldable pub judged_end : Reached → Judged → Judged
judged_end (Ok q) j = j
judged_end (Err q) j = judgment 23 q.place 0

unfoldable pub judged_from : (Bytes → State → Taking) → Bytes → State → Judged
judged_from take text z = judged_end (scan text).end (judged_by take (lines_of text) 0 z)
