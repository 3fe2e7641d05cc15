-- The things of a drawing, in the order in which they stand: a block of notes, five for each. Thing 0 is the root, so 0 is none where another thing is named.
use Rattle.std.specs.Prelude.{ℕ, ◌+◌, ◌*◌, Bool, ◌&&◌, leb, ltb, set}
use Rattle.base_words.specs.Blocks.{Drawing}
use Rattle.base_words.specs.Pick.{if◌then◌or_else◌}
use Rattle.base_words.specs.Words.{at}

-- SORTS. Nothing: an element that is no thing.
abbrev pub nothing : ℕ
nothing = 0

abbrev pub definitions : ℕ
definitions = 1

abbrev pub collaboration : ℕ
collaboration = 2

abbrev pub participant : ℕ
participant = 3

abbrev pub participant_multiplicity : ℕ
participant_multiplicity = 4

abbrev pub message_flow : ℕ
message_flow = 5

abbrev pub process : ℕ
process = 6

abbrev pub sequence_flow : ℕ
sequence_flow = 7

abbrev pub condition_expression : ℕ
condition_expression = 8

abbrev pub message_event_definition : ℕ
message_event_definition = 9

abbrev pub terminate_event_definition : ℕ
terminate_event_definition = 10

-- "an element we don't run" (RULES: drawn)
abbrev pub stranger : ℕ
stranger = 11

-- the ten nodes
abbrev pub start_event : ℕ
start_event = 12

abbrev pub end_event : ℕ
end_event = 13

abbrev pub intermediate_catch_event : ℕ
intermediate_catch_event = 14

abbrev pub intermediate_throw_event : ℕ
intermediate_throw_event = 15

abbrev pub task : ℕ
task = 16

abbrev pub send_task : ℕ
send_task = 17

abbrev pub receive_task : ℕ
receive_task = 18

abbrev pub parallel_gateway : ℕ
parallel_gateway = 19

abbrev pub exclusive_gateway : ℕ
exclusive_gateway = 20

abbrev pub event_based_gateway : ℕ
event_based_gateway = 21

unfoldable pub is_node : ℕ → Bool
is_node s = leb start_event s && leb s event_based_gateway

-- NOTES
abbrev pub thing_words : ℕ
thing_words = 5

-- how many things the block holds: the shortest one, `<process/>`, is ten bytes of a text's 65,536
abbrev pub room : ℕ
room = 6554

abbrev pub block_words : ℕ
block_words = thing_words * room

-- where the notes of thing k stand
abbrev pub sort_place : ℕ → ℕ
sort_place k = thing_words * k

abbrev pub place_place : ℕ → ℕ
place_place k = thing_words * k + 1

abbrev pub within_place : ℕ → ℕ
within_place k = thing_words * k + 2

abbrev pub source_place : ℕ → ℕ
source_place k = thing_words * k + 3

abbrev pub target_place : ℕ → ℕ
target_place k = thing_words * k + 4

-- its sort; the place of its `<`; the thing that it stands in
abbrev pub sort : Drawing → ℕ → ℕ
sort w k = at w (sort_place k)

abbrev pub place : Drawing → ℕ → ℕ
place w k = at w (place_place k)

abbrev pub within : Drawing → ℕ → ℕ
within w k = at w (within_place k)

-- the things that a flow joins; a participant's process is its source; 0 for none
abbrev pub source : Drawing → ℕ → ℕ
source w k = at w (source_place k)

abbrev pub target : Drawing → ℕ → ℕ
target w k = at w (target_place k)

-- what a node is: 0 for none of ours, 1 to 15 a kind, or `branch`, a catch event behind an event gateway
abbrev pub kind : Drawing → ℕ → ℕ
kind w k = source w k

abbrev pub branch : ℕ
branch = 16

-- the block with another source or target of thing k
abbrev pub with_source : Drawing → ℕ → ℕ → Drawing
with_source w k v = set w (source_place k) v

abbrev pub with_target : Drawing → ℕ → ℕ → Drawing
with_target w k v = set w (target_place k) v

-- the greatest note: the last place of a text of 65,536 bytes
abbrev pub greatest_note : ℕ
greatest_note = 65535

-- A place as a note; the greatest note stands for those above it, which no text of 65,536 bytes has.
unfoldable pub narrow : ℕ → ℕ
narrow p = if ltb p greatest_note then p or_else greatest_note

-- one more; the greatest note stays
unfoldable pub one_more : ℕ → ℕ
one_more n = if ltb n greatest_note then n + 1 or_else greatest_note

-- thing n added: of a sort, at a place, within a thing, with no source and no target yet
unfoldable pub added : ℕ → ℕ → ℕ → Drawing → ℕ → Drawing
added s p k w n = set (set (set (set (set w (sort_place n) s) (place_place n) (narrow p)) (within_place n) k) (source_place n) 0) (target_place n) 0
