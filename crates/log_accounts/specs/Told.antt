-- WHAT A LOG TELLS of a name and a tuple: its events as calls in turn, by a way to do one step and one post, with the answers that they give. "for each name and tuple the four numbers". w is a line, z a state.
use Rattle.std.specs.Prelude.{ℕ, ◌+◌, ◌-◌, List, [], ◌∷◌, map, length, take}
use Rattle.base_words.specs.Blocks.{Bytes, State}
use Rattle.base_words.specs.Pick.{if◌then◌or_else◌}
use Rattle.meaning.specs.declared.Name.{Name}
use Rattle.meaning.specs.declared.Tuple.{Tuple}
use Rattle.step_poll.specs.Items.{Act, a_step, a_post}
use Rattle.step_poll.specs.Poll.{Left, Stepped}
use Rattle.step_history.specs.declared.Moved.{Moved}
use Rattle.step_history.specs.declared.Noted.{Noted}
use Rattle.step_history.specs.History.{Entry, told_by, left_by, posts, sends, consumes, moved_by, nothing_moved, how_many, accounts_of}
use Rattle.log_lines.specs.Entries.{entry_of}
use Rattle.log_text.specs.Logs.{lines_of}
use Rattle.log_accounts.specs.declared.Telling.{Telling}
use Rattle.log_accounts.specs.declared.Told.{Told}

-- the step or post that a line names
unfoldable pub act_of : Bytes → Act
act_of w = if (entry_of w).posts then a_post (entry_of w).name.pool (entry_of w).name.given or_else a_step (entry_of w).name

-- THE HISTORY of the first `most` events, and the state that they leave
abbrev pub acts_of : List Bytes → ℕ → List Act
acts_of lines most = take most (map act_of lines)

unfoldable pub history_in : (State → Name → Stepped) → (State → ℕ → Tuple → Left) → Bytes → ℕ → State → List Entry
history_in step post log most z = told_by step post (acts_of (lines_of log) most) z

unfoldable pub state_in : (State → Name → Stepped) → (State → ℕ → Tuple → Left) → Bytes → ℕ → State → State
state_in step post log most z = left_by step post (acts_of (lines_of log) most) z

-- what the last entry moved; d where there is none
unfoldable pub last_moved : Moved → List Entry → Moved
last_moved d [] = d
last_moved d (e ∷ h) = last_moved (moved_by e) h

-- what was told before, b, and by these entries: the numbers, how many more events are asked for, and what the last one moved
unfoldable pub onward : ℕ → Tuple → Telling → List Entry → Telling
onward m g b h =
    record {
      posted = b.posted + how_many (posts m g) h;
      sent = b.sent + how_many (sends m g) h;
      consumed = b.consumed + how_many (consumes m g) h;
      room = b.room - length h;
      moved = last_moved b.moved h;
    }

abbrev pub nothing_told : ℕ → Telling
nothing_told most = record { posted = 0; sent = 0; consumed = 0; room = most; moved = nothing_moved }

-- with one event more
unfoldable pub and_noted : Telling → Noted → Telling
and_noted b n = record { posted = b.posted + n.posted; sent = b.sent + n.sent; consumed = b.consumed + n.consumed; room = b.room - 1; moved = n.moved }

-- ALL OF IT: the four numbers, and how many events fewer there are than were asked for
unfoldable pub all_told : ℕ → Tuple → ℕ → List Entry → State → Told
all_told m g most h y = record { accounts = accounts_of m g h y; room = most - length h; moved = last_moved nothing_moved h }

unfoldable pub told_in : (State → Name → Stepped) → (State → ℕ → Tuple → Left) → Bytes → ℕ → ℕ → Tuple → State → Told
told_in step post log most m g z = all_told m g most (history_in step post log most z) (state_in step post log most z)
