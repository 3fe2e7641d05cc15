-- NUMBERS, "from the lowest allowed, as they stand" (R26): by how many stand before. w is the things of a drawing, n their count, p a process, k a thing. (RULES: numbering)
use Rattle.std.specs.Prelude.{ℕ, Bool, not, ◌&&◌, ◌||◌, eqb, leb, ltb}
use Rattle.base_words.specs.Blocks.{Bytes, Drawing}
use Rattle.base_words.specs.Pick.{if◌then◌or_else◌}
use Rattle.base_words.specs.Sum.{sum, one_if}
use Rattle.base_words.specs.Text.{bytes}
use Rattle.base_words.specs.Words.{part}
use Rattle.base_kinds.specs.Kinds as kinds
use Rattle.text_numerals.specs.Numerals.{number_of, if_value}
use Rattle.xml_markup.specs.Spans.{attribute}
use Rattle.draw_things.specs.Things.{one_more, sort, place, within, source, kind, is_node, message_flow, sequence_flow, task, receive_task, branch}
use Rattle.draw_links.specs.Links.{if_is, named}
use Rattle.draw_kinds.specs.Counting.{of_sort, count_sort}
use Rattle.draw_numbers.specs.Who.{is_of_kind}

unfoldable pub count_before : (ℕ → Bool) → ℕ → ℕ
count_before f k = sum (λ j. one_if (f j)) k

-- "elements as nodes stand": a catch event behind an event gateway is none (RULES: numbering)
unfoldable pub is_element : ℕ → Drawing → ℕ → Bool
is_element p w j = is_node (sort w j) && (eqb (within w j) p && not (eqb (kind w j) branch))

-- "task 1.. as tasks of the three kinds stand" (RULES: numbering)
unfoldable pub is_task : ℕ → Drawing → ℕ → Bool
is_task p w j = leb task (sort w j) && (leb (sort w j) receive_task && eqb (within w j) p)

-- "edge 1.. as the process's sequence flows stand, those into a catch event behind an event gateway left out" (RULES: numbering)
unfoldable pub is_edge : ℕ → Drawing → ℕ → Bool
is_edge p w j = of_sort sequence_flow w j && (eqb (within w j) p && not (is_of_kind kinds.event_based w (source w j)))

-- "then each start's first edge, in node order" (RULES: numbering)
unfoldable pub is_start : ℕ → Drawing → ℕ → Bool
is_start p w j = is_of_kind kinds.start w j && eqb (within w j) p

unfoldable pub is_before_first : ℕ → ℕ → Drawing → ℕ → Bool
is_before_first p k w j = is_edge p w j || (is_start p w j && ltb j k)

-- which of these is counted, by a number
abbrev pub an_element : ℕ
an_element = 0

abbrev pub a_task : ℕ
a_task = 1

abbrev pub an_edge : ℕ
an_edge = 2

unfoldable pub is_of : ℕ → ℕ → Drawing → ℕ → Bool
is_of class p w j = if eqb class an_element then is_element p w j or_else if eqb class a_task then is_task p w j or_else is_edge p w j

unfoldable pub task_of : Drawing → ℕ → ℕ
task_of w k = one_more (count_before (is_of a_task (within w k) w) k)

unfoldable pub edge_of : Drawing → ℕ → ℕ
edge_of w k = one_more (count_before (is_of an_edge (within w k) w) k)

unfoldable pub first_edge_of : Drawing → ℕ → ℕ → ℕ
first_edge_of w n k = one_more (count_before (is_before_first (within w k) k w) n)

-- "message 0.. as message flows stand" (RULES: numbering)
unfoldable pub message_of : Drawing → ℕ → ℕ
message_of w k = count_sort message_flow w k

-- the maximum of a participantMultiplicity, "1 where that is absent" (R20) (RULES: drawn)
unfoldable pub maximum_of : Bytes → Drawing → ℕ → ℕ
maximum_of t w k = if_is (attribute t (place w k) (bytes "maximum")) (λ from to. if_value (number_of (part t from to)) (λ v. v) 0) 1

-- the default flow of an exclusive split, 0 where it has none
unfoldable pub default_of : Bytes → Drawing → ℕ → ℕ → ℕ
default_of t w n k = named t w n k (bytes "default")
