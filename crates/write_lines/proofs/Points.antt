-- The step lines of document 01's session, and messages of no and of two values, each computed.
use mathlib.Core.Path.{◌≡◌, refl}
use mathlib.Core.List.{List, [], ◌∷◌}
use Prim.Native.Nat.{ℕ}
use lib.ListN.{length}
use Rattle.base_words.specs.Text.{bytes}
use Rattle.base_words.specs.Words.{greatest}
use Rattle.base_words.specs.Each.{joined}
use Rattle.base_words.specs.Pick.{if◌then◌or_else◌}
use Rattle.write_buffer.specs.Buffers.{lesser}
use Rattle.write_decimals.specs.Decimals.{shown, shown_from}
use Rattle.meaning.specs.Tuples.{empty}
use Rattle.meaning.specs.declared.Name.{Name}
use Rattle.meaning.specs.declared.Answer.{Answer}
use Rattle.meaning.specs.declared.Tuple.{Tuple}
use Rattle.meaning.specs.declared.Traffic.{Traffic}
use Rattle.meaning.specs.declared.Traffic.TheVariants.{Nothing, Consumed, Sent}
use Rattle.write_lines.specs.Lines.{marked_off, row, values_line, tuple_line, message_line, signed, traffic_line, place_line, step_line, name_line, step_most, name_most}

-- a step's name, the values given left out, and its answer
abbrev step : ℕ → ℕ → ℕ → ℕ → Name
step p i e f = record { pool = p; instance = i; element = e; phase = f; branch = 0; given = empty }

abbrev answer : Traffic → ℕ → Tuple → Answer
answer t m g = record { number = 0; traffic = t; name = m; tuple = g }

abbrev silent : Answer
silent = answer Nothing 0 empty

abbrev seven : Tuple
seven = record { length = 1; values = 7 ∷ 0 ∷ 0 ∷ 0 ∷ [] }

abbrev session : List (List ℕ)
session =
    step_line (step 1 0 0 0) silent
    ∷ step_line (step 1 0 1 0) (answer Sent 3 seven)
    ∷ step_line (step 1 0 2 0) silent
    ∷ step_line (step 2 0 0 0) (answer Consumed 3 seven)
    ∷ step_line (step 2 0 1 1) silent
    ∷ step_line (step 2 0 1 3) silent
    ∷ step_line (step 2 0 2 0) silent
    ∷ []

pub session_lines :
    session
    ≡ bytes "1 0 0 0 0 -"
    ∷ bytes "1 0 1 0 0 !3:7"
    ∷ bytes "1 0 2 0 0 -"
    ∷ bytes "2 0 0 0 0 ?3:7"
    ∷ bytes "2 0 1 1 0 -"
    ∷ bytes "2 0 1 3 0 -"
    ∷ bytes "2 0 2 0 0 -"
    ∷ []
unfolding marked_off row values_line message_line signed traffic_line place_line step_line joined lesser shown shown_from if◌then◌or_else◌
session_lines = refl

pub no_values : traffic_line (answer Sent 3 empty) ≡ bytes "!3:"
unfolding marked_off row values_line message_line signed traffic_line joined lesser shown shown_from if◌then◌or_else◌
no_values = refl

pub two_values : traffic_line (answer Consumed 3 (record { length = 2; values = 7 ∷ 9 ∷ 11 ∷ 0 ∷ [] })) ≡ bytes "?3:7,9"
unfolding marked_off row values_line message_line signed traffic_line joined lesser shown shown_from if◌then◌or_else◌
two_values = refl

pub named : name_line (record { pool = 9; instance = 15; element = 31; phase = 1; branch = 7; given = record { length = 2; values = 10 ∷ 0 ∷ 0 ∷ 0 ∷ [] } }) ≡ bytes "9 15 31 1 7 10,0"
unfolding marked_off row values_line tuple_line place_line name_line joined lesser shown shown_from if◌then◌or_else◌
named = refl

pub named_alone : name_line (step 1 0 0 0) ≡ bytes "1 0 0 0 0 -"
unfolding marked_off row values_line tuple_line place_line name_line joined lesser shown shown_from if◌then◌or_else◌
named_alone = refl

-- the longest lines are as long as the bounds say
abbrev full : Tuple
full = record { length = 4; values = greatest ∷ greatest ∷ greatest ∷ greatest ∷ [] }

abbrev far : Name
far = record { pool = greatest; instance = greatest; element = greatest; phase = greatest; branch = greatest; given = full }

pub longest_step : length (step_line far (answer Sent greatest full)) ≡ step_most
unfolding marked_off row values_line message_line signed traffic_line place_line step_line joined lesser shown shown_from if◌then◌or_else◌
longest_step = refl

pub longest_name : length (name_line far) ≡ name_most
unfolding marked_off row values_line tuple_line place_line name_line joined lesser shown shown_from if◌then◌or_else◌
longest_name = refl
