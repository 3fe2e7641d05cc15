-- WHICH NODE IS WHICH NUMBER: the map of an accepted drawing, a line for each pool, element, branch, edge and message, with the place of the `<` of what is drawn there; nothing but numbers, so that a reader looks names up at the places.
-- text is the drawing, w its things, n their count, table its table; k a thing, i a pool's place in the table, p the process of the pool, e an element's place. (RULES: drawings)
use Rattle.std.specs.Prelude.{ℕ, ◌+◌, Bool, ◌&&◌, List, [], ◌∷◌, ◌++◌, map, eqb, length}
use Rattle.base_words.specs.Blocks.{Bytes, Table, Drawing}
use Rattle.base_words.specs.Each.{joined}
use Rattle.base_words.specs.Pick.{if◌then◌or_else◌}
use Rattle.base_words.specs.Text.{bytes}
use Rattle.base_words.specs.Words.{at, greatest}
use Rattle.base_kinds.specs.Kinds as kinds
use Rattle.base_table.specs.Table.{element_at, entry_at}
use Rattle.write_buffer.specs.Buffers.{Put, lesser}
use Rattle.write_decimals.specs.Decimals.{shown}
use Rattle.write_lines.specs.Lines.{unread_line}
use Rattle.text_read.specs.declared.Reading.{Reading}
use Rattle.text_read.specs.Notation.{table_of, rewritten}
use Rattle.draw_things.specs.Things.{one_more, place, within, target, message_flow, sequence_flow}
use Rattle.draw_kinds.specs.Counting.{source_in, is_with, count_with, of_sort}
use Rattle.draw_faults.specs.Amiss.{is_outside}
use Rattle.draw_numbers.specs.Who.{has_participants, is_pool, is_of_kind}
use Rattle.draw_numbers.specs.Numbers.{count_before, is_of, an_element, an_edge, edge_of, message_of}
use Rattle.draw_model.specs.Content.{content, process_of}
use Rattle.draw_walk.specs.Walk.{Walk}
use Rattle.draw_read.specs.Drawings.{walked_text, things_of, answered}

-- what a writer of a text promises that says nothing of its greatest length
abbrev pub Puts : Bytes → ℕ → Bytes → ℕ → List ℕ → Type 0
Puts w from out r now = Put w (length w) from out r now

-- A LINE: a word, numbers behind it, each after a blank, and a newline
unfoldable pub next : ℕ → Bytes
next x = bytes " " ++ shown x

unfoldable pub numbers : List ℕ → Bytes
numbers xs = joined (λ j. next (at xs j)) (length xs)

unfoldable pub line : List ℕ → List ℕ → Bytes
line word xs = word ++ (numbers xs ++ bytes "\n")

-- AN EDGE THAT IS NO FLOW: the table has it before the element that it enters, a start, or the end behind a message end event
unfoldable pub within_line : Table → ℕ → ℕ → ℕ → Bytes
within_line table i e at = line (bytes "within") (one_more i ∷ entry_at (element_at table i e) 0 ∷ at ∷ [])

unfoldable pub element_line : ℕ → ℕ → ℕ → Bytes
element_line i e at = line (bytes "element") (one_more i ∷ e ∷ at ∷ [])

-- A BRANCH of the event gateway k by flow j: the gateway's own flow and the catch event behind it, neither of which has a number; branches as the flows stand
unfoldable pub branch_line : ℕ → ℕ → Drawing → ℕ → ℕ → Bytes
branch_line i e w k j =
    if is_with sequence_flow source_in k w j then
    line (bytes "branch") (one_more i ∷ e ∷ count_with sequence_flow source_in k w j ∷ place w j ∷ place w (target w j) ∷ [])
    or_else []

unfoldable pub branch_lines : ℕ → ℕ → Drawing → ℕ → ℕ → Bytes
branch_lines i e w n k = joined (branch_line i e w k) n

-- AN ELEMENT, at its place among the pool's elements, and what belongs to it and has no place of its own
unfoldable pub belonging : Table → Drawing → ℕ → ℕ → ℕ → ℕ → Bytes
belonging table w n i e k =
    if is_of_kind kinds.start w k then within_line table i e (place w k)
    or_else if is_of_kind kinds.event_based w k then branch_lines i e w n k
    or_else []

unfoldable pub with_belonging : Table → Drawing → ℕ → ℕ → ℕ → ℕ → Bytes
with_belonging table w n i e k = element_line i e (place w k) ++ belonging table w n i e k

unfoldable pub element_lines : Table → Drawing → ℕ → ℕ → ℕ → ℕ → Bytes
element_lines table w n i p k = if is_of an_element p w k then with_belonging table w n i (count_before (is_of an_element p w) k) k or_else []

-- THE END behind a message end event, "behind the pool's other elements; several are treated in text order"; its edge is within it (RULES: ends)
unfoldable pub is_message_end : ℕ → Drawing → ℕ → Bool
is_message_end p w k = is_of_kind kinds.end_snd w k && eqb (within w k) p

unfoldable pub end_place : Drawing → ℕ → ℕ → ℕ → ℕ
end_place w n p k = lesser (count_before (is_of an_element p w) n + count_before (is_message_end p w) k) greatest

unfoldable pub with_end : Table → ℕ → ℕ → ℕ → Bytes
with_end table i e at = element_line i e at ++ within_line table i e at

unfoldable pub end_lines : Table → Drawing → ℕ → ℕ → ℕ → ℕ → Bytes
end_lines table w n i p k = if is_message_end p w k then with_end table i (end_place w n p k) (place w k) or_else []

-- A FLOW that is an edge
unfoldable pub edge_line : Drawing → ℕ → ℕ → ℕ → Bytes
edge_line w i p k = if is_of an_edge p w k then line (bytes "edge") (one_more i ∷ edge_of w k ∷ place w k ∷ []) or_else []

-- A POOL: "Pools in order, in each its elements, then its edges by number". Which of its lines are meant, by a number
abbrev pub the_elements : ℕ
the_elements = 0

abbrev pub the_ends : ℕ
the_ends = 1

abbrev pub the_edges : ℕ
the_edges = 2

unfoldable pub lines_of : ℕ → Table → Drawing → ℕ → ℕ → ℕ → ℕ → Bytes
lines_of class table w n i p k =
    if eqb class the_elements then element_lines table w n i p k
    or_else if eqb class the_ends then end_lines table w n i p k
    or_else edge_line w i p k

unfoldable pub all_of : ℕ → Table → Drawing → ℕ → ℕ → ℕ → Bytes
all_of class table w n i p = joined (lines_of class table w n i p) n

unfoldable pub inside : Table → Drawing → ℕ → ℕ → ℕ → Bytes
inside table w n i p = all_of the_elements table w n i p ++ (all_of the_ends table w n i p ++ all_of the_edges table w n i p)

unfoldable pub with_inside : Table → Drawing → ℕ → ℕ → ℕ → ℕ → Bytes
with_inside table w n i p k = line (bytes "pool") (one_more i ∷ place w k ∷ []) ++ inside table w n i p

unfoldable pub pool_lines : Bool → Table → Drawing → ℕ → ℕ → Bytes
pool_lines owned table w n k = if is_pool owned w k then with_inside table w n (count_before (is_pool owned w) k) (process_of owned w k) k or_else []

-- BEHIND THE POOLS: participants without a process, and the messages, also those between two of these
unfoldable pub outside_line : Bytes → Drawing → ℕ → Bytes
outside_line text w k = if is_outside text w k then line (bytes "outside") (place w k ∷ []) or_else []

unfoldable pub message_line : Drawing → ℕ → Bytes
message_line w k = if of_sort message_flow w k then line (bytes "message") (message_of w k ∷ place w k ∷ []) or_else []

-- THE WHOLE. Which lines are meant, by a number
abbrev pub the_pools : ℕ
the_pools = 0

abbrev pub the_outsiders : ℕ
the_outsiders = 1

abbrev pub the_messages : ℕ
the_messages = 2

unfoldable pub part_of : ℕ → Bool → Bytes → Table → Drawing → ℕ → ℕ → Bytes
part_of class owned text table w n k =
    if eqb class the_pools then pool_lines owned table w n k
    or_else if eqb class the_outsiders then outside_line text w k
    or_else message_line w k

unfoldable pub every_of : ℕ → Bytes → Table → Drawing → ℕ → Bytes
every_of class text table w n = joined (part_of class (has_participants w n) text table w n) n

unfoldable pub map_of : Bytes → Table → Drawing → ℕ → Bytes
map_of text table w n = every_of the_pools text table w n ++ (every_of the_outsiders text table w n ++ (every_of the_messages text table w n ++ bytes "end\n"))

-- a refused drawing: "`refused`, the number and what stands beside it" (RULES: lines)
unfoldable pub map_by : Reading → List ℕ → Bytes
map_by a m = if eqb a.number 0 then m or_else unread_line a.number (lesser a.beside greatest)

unfoldable pub map_text : Bytes → Bytes
map_text text = map_by (answered text) (map_of text (table_of (map rewritten (content text (things_of text) (walked_text text).count))) (things_of text) (walked_text text).count)
