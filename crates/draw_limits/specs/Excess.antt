-- 3: WHAT IS BEYOND THE LIMITS (R28). "The leftmost of all decides": things stand in the order of the text, and the place of each is its own `<` or stands in its own tag or text, so it is that of the
-- first thing that is beyond. t is the text, w the things of a drawing in which nothing is amiss, n their count, k a thing. (RULES: beyond)
use Rattle.std.specs.Prelude.{ℕ, ◌+◌, Bool, true, false, not, ◌&&◌, ◌||◌, List, eqb, leb, ltb}
use Rattle.base_words.specs.Blocks.{Bytes, Drawing}
use Rattle.base_words.specs.Counts.{pools, elements, branches, edges, tasks, names, instances}
use Rattle.base_words.specs.Pick.{if◌then◌or_else◌}
use Rattle.base_words.specs.Seek.{seek}
use Rattle.base_words.specs.Text.{bytes}
use Rattle.base_words.specs.Words.{part}
use Rattle.text_numerals.specs.Numerals.{number_of, if_value}
use Rattle.xml_markup.specs.Spans.{attribute}
use Rattle.draw_things.specs.Things.{sort, place, within, source, target, is_node, participant_multiplicity, message_flow, sequence_flow, condition_expression}
use Rattle.draw_links.specs.Links.{if_is}
use Rattle.draw_kinds.specs.Counting.{source_in, target_in, of_sort, count_with}
use Rattle.draw_conditions.specs.Conditions.{condition_at}
use Rattle.draw_numbers.specs.Who.{has_participants, is_pool, is_split}
use Rattle.draw_numbers.specs.Numbers.{an_element, a_task, an_edge, is_of, is_start, count_before, first_edge_of, message_of, maximum_of, default_of}

-- "fifth pool: the `<` of its participant (of its process where there are no participants)" (RULES: beyond)
unfoldable pub is_fifth_pool : Bool → Drawing → ℕ → Bool
is_fifth_pool owned w k = is_pool owned w k && leb pools (count_before (is_pool owned w) k)

-- "33rd element, 17th task: its `<`; 49th edge: the flow's `<`" (RULES: beyond)
unfoldable pub is_one_too_many : ℕ → ℕ → Drawing → ℕ → Bool
is_one_too_many class most w k = is_of class (within w k) w k && leb most (count_before (is_of class (within w k) w) k)

-- ".. or the startEvent's `<` for a first edge" (RULES: beyond)
unfoldable pub is_start_beyond : Drawing → ℕ → ℕ → Bool
is_start_beyond w n k = is_start (within w k) w k && ltb edges (first_edge_of w n k)

unfoldable pub is_node_beyond : Drawing → ℕ → ℕ → Bool
is_node_beyond w n k = is_one_too_many an_element elements w k || (is_one_too_many a_task tasks w k || is_start_beyond w n k)

-- "ninth entry or exit of a gateway: the `<` of the ninth flow as they stand" (RULES: beyond)
unfoldable pub is_ninth : Drawing → ℕ → Bool
is_ninth w k = leb branches (count_with sequence_flow source_in (source w k) w k) || leb branches (count_with sequence_flow target_in (target w k) w k)

unfoldable pub is_flow_beyond : Drawing → ℕ → Bool
is_flow_beyond w k = of_sort sequence_flow w k && (is_one_too_many an_edge edges w k || is_ninth w k)

-- "message number above 15 used by a node: the messageFlow's `<`" (RULES: beyond)
unfoldable pub is_used : Drawing → ℕ → Bool
is_used w k = is_node (sort w (source w k)) || is_node (sort w (target w k))

unfoldable pub is_message_beyond : Drawing → ℕ → Bool
is_message_beyond w k = of_sort message_flow w k && (is_used w k && leb names (message_of w k))

-- "maximum outside 1..16: the value's first byte"; "an outsider's maximum is no 3" (R29) (RULES: beyond)
unfoldable pub is_limit : ℕ → Bool
is_limit v = leb 1 v && leb v instances

unfoldable pub is_maximum_beyond : Bytes → Drawing → ℕ → Bool
is_maximum_beyond t w k = of_sort participant_multiplicity w k && (not (eqb (source w (within w k)) 0) && not (is_limit (maximum_of t w k)))

-- "`d16`, 4,294,967,296 in a condition that stands in the table: the token's first byte"; "the default flow's condition is no 3" (R29) (RULES: beyond)
unfoldable pub is_guarded : Bytes → Drawing → ℕ → ℕ → Bool
is_guarded t w n j = is_split w (source w j) && not (eqb (default_of t w n (source w j)) j)

unfoldable pub is_condition_beyond : Bytes → Drawing → ℕ → ℕ → Bool
is_condition_beyond t w n k = of_sort condition_expression w k && (not (eqb (condition_at t (place w k)).beyond 0) && is_guarded t w n (within w k))

unfoldable pub is_beyond : Bool → Bytes → Drawing → ℕ → ℕ → Bool
is_beyond owned t w n k =
    is_fifth_pool owned w k
    || (is_node_beyond w n k || (is_flow_beyond w k || (is_message_beyond w k || (is_maximum_beyond t w k || is_condition_beyond t w n k))))

-- its place
unfoldable pub value_place : Bytes → Drawing → ℕ → ℕ
value_place t w k = if_is (attribute t (place w k) (bytes "maximum")) (λ from to. from) 0

unfoldable pub beyond_at : Bytes → Drawing → ℕ → ℕ
beyond_at t w k =
    if of_sort participant_multiplicity w k then value_place t w k
    or_else if of_sort condition_expression w k then (condition_at t (place w k)).beyond
    or_else place w k

-- the first thing that is beyond the limits, n where none is
unfoldable pub first_beyond : Bytes → Drawing → ℕ → ℕ
first_beyond t w n = seek (is_beyond (has_participants w n) t w n) n
