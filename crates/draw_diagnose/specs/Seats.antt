-- WHERE A CHECK IS BROKEN, or room is missing (4 and 28): what the check asks of a thing of the drawing. w is the things of a drawing in which nothing is amiss or beyond, n their count, k a thing, p the process of a pool.
use Rattle.std.specs.Prelude.{ℕ, ◌+◌, Bool, not, ◌&&◌, ◌||◌, List, eqb, ltb}
use Rattle.base_words.specs.Blocks.{Bytes, Drawing}
use Rattle.base_words.specs.Counts.{elements, edges}
use Rattle.base_words.specs.Pick.{if◌then◌or_else◌}
use Rattle.base_words.specs.Seek.{seek}
use Rattle.base_kinds.specs.Kinds as kinds
use Rattle.check_occurrences.specs.Occurrences.{default_once}
use Rattle.check_model.specs.Checks.{one_start, start_receives, names_apart, one_default}
use Rattle.draw_things.specs.Things.{sort, place, within, source, target, is_node, participant_multiplicity, message_flow}
use Rattle.draw_kinds.specs.Counting.{within_in, of_sort, first_with}
use Rattle.draw_numbers.specs.Who.{has_participants, is_pool, is_of_kind, is_split}
use Rattle.draw_numbers.specs.Numbers.{count_before, is_of, an_element, an_edge}
use Rattle.draw_model.specs.Drawn.{element_drawn}
use Rattle.draw_model.specs.Content.{process_of}

-- nodes of a kind in a process
unfoldable pub is_kind_in : ℕ → ℕ → Drawing → ℕ → Bool
is_kind_in c p w j = is_of_kind c w j && eqb (within w j) p

unfoldable pub count_kind : ℕ → ℕ → Drawing → ℕ → ℕ
count_kind c p w n = count_before (is_kind_in c p w) n

-- 2: a pool that has not exactly one start
unfoldable pub is_misstarted : Drawing → ℕ → ℕ → Bool
is_misstarted w n p = not (eqb (count_kind kinds.start p w n + count_kind kinds.start_rcv p w n) 1)

-- 3: a pool of many instances with a start that receives nothing
unfoldable pub is_many : Drawing → ℕ → ℕ → Bool
is_many w n k = ltb (first_with participant_multiplicity within_in k w n) n

unfoldable pub is_unasked : Drawing → ℕ → ℕ → ℕ → Bool
is_unasked w n p k = is_many w n k && not (eqb (count_kind kinds.start p w n) 0)

-- 28: a pool whose message end events find no room for their ends and edges
unfoldable pub is_crowded : Drawing → ℕ → ℕ → Bool
is_crowded w n p =
    ltb elements (count_before (is_of an_element p w) n + count_kind kinds.end_snd p w n)
    || ltb edges (count_before (is_of an_edge p w) n + count_kind kinds.start p w n + count_kind kinds.end_snd p w n)

unfoldable pub is_pool_seat : ℕ → Drawing → ℕ → ℕ → ℕ → Bool
is_pool_seat check w n p k =
    if eqb check one_start then is_misstarted w n p
    or_else if eqb check start_receives then is_unasked w n p k
    or_else is_crowded w n p

-- 6: a message flow between two nodes of one process
unfoldable pub joins_own : Drawing → ℕ → ℕ → Bool
joins_own w a b = is_node (sort w a) && (is_node (sort w b) && eqb (within w a) (within w b))

unfoldable pub is_own_message : Drawing → ℕ → Bool
is_own_message w k = of_sort message_flow w k && joins_own w (source w k) (target w k)

-- 7: a split with more than one default
unfoldable pub has_defaults : Bytes → Drawing → ℕ → ℕ → Bool
has_defaults t w n k = is_split w k && not (default_once (element_drawn t w n k))

unfoldable pub is_seat : ℕ → Bool → Bytes → Drawing → ℕ → ℕ → Bool
is_seat check owned t w n k =
    if eqb check names_apart then is_own_message w k
    or_else if eqb check one_default then has_defaults t w n k
    or_else is_pool owned w k && is_pool_seat check w n (process_of owned w k) k

-- the first such thing, and its place; 0 where there is none
unfoldable pub first_seat : ℕ → Bytes → Drawing → ℕ → ℕ
first_seat check t w n = seek (is_seat check (has_participants w n) t w n) n

unfoldable pub seat_at : ℕ → Bytes → Drawing → ℕ → ℕ
seat_at check t w n = if ltb (first_seat check t w n) n then place w (first_seat check t w n) or_else 0
