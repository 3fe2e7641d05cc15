-- WHAT AN endSnd BECOMES, over models. "The reader still takes `endSnd(e,m:X)` but the table holds an `interSnd` to the lowest unused edge of the pool, with an `end` for it behind the pool's other elements; several
-- are treated in text order." els is the elements of a pool, el one of them, f an edge. (RULES: ends)
use Rattle.std.specs.Prelude.{ℕ, zero, suc, ◌+◌, Bool, ◌&&◌, List, [], ◌∷◌, ◌++◌, eqb, leb, length, get_or, set, replicate}
use Rattle.base_words.specs.Blocks.{Element}
use Rattle.base_words.specs.Counts.{elements, branches, edges}
use Rattle.base_words.specs.Each.{total, each}
use Rattle.base_words.specs.Iter.{iter}
use Rattle.base_words.specs.Pick.{if◌then◌or_else◌}
use Rattle.base_words.specs.Sum.{sum, hit, one_if}
use Rattle.base_words.specs.Words.{at}
use Rattle.base_kinds.specs.Kinds.{end, end_snd, inter_snd}
use Rattle.base_table.specs.Places.{kind_place, entries_place, exits_place, edge_place, element_words}
use Rattle.base_table.specs.Table.{kind_in}
use Rattle.check_model.specs.Checks.{Pool}

unfoldable pub is_end_snd : Element → Bool
is_end_snd el = eqb (kind_in el) end_snd

-- how often the edge e stands in a list of an element, and before or behind it (a place that is not in use holds 0, which is no edge)
unfoldable pub times_in : Element → ℕ → ℕ → ℕ
times_in el list e = sum (λ j. hit (at el (edge_place list j)) e) branches

unfoldable pub mentioned : ℕ → Element → ℕ
mentioned e el = times_in el entries_place e + times_in el exits_place e

-- "Unused: a number 1 to 48 that no element of the pool mentions, before or behind (start's first edge is mentioned)": the edge k + 1 (RULES: ends)
unfoldable pub is_unused : List Element → ℕ → Bool
is_unused els k = each (λ el. eqb (mentioned (k + 1) el) 0) els

-- the first number from k on that passes a test, of n
unfoldable pub first_from : (ℕ → Bool) → ℕ → ℕ → ℕ
first_from f zero k = k
first_from f (suc n) k = if f k then k or_else first_from f n (k + 1)

unfoldable pub lowest_unused : List Element → ℕ
lowest_unused els = first_from (is_unused els) edges 0 + 1

-- the words of an element that is of a kind now, with the one edge f in a list: `interSnd(e,m:X,f)`, and `end(f)`
unfoldable pub with_one : ℕ → ℕ → ℕ → Element → Element
with_one kind list f el = set (set (set el kind_place kind) list 1) (edge_place list 0) f

unfoldable pub sending_to : ℕ → Element → Element
sending_to f el = with_one inter_snd exits_place f el

unfoldable pub end_of : ℕ → Element
end_of f = with_one end entries_place f (replicate element_words 0)

-- ONE endSnd, the first: "it stays at its place among the elements", and the end for it stands behind the others (RULES: ends)
unfoldable pub first_end : List Element → ℕ
first_end els = first_from (λ j. is_end_snd (get_or els j [])) (length els) 0

unfoldable pub treated : List Element → List Element
treated els = set els (first_end els) (sending_to (lowest_unused els) (get_or els (first_end els) [])) ++ (end_of (lowest_unused els) ∷ [])

-- A POOL: one after the other, so that the k-th endSnd gets the k-th lowest unused edge, and its end stands at place n + k
unfoldable pub end_sends : List Element → ℕ
end_sends els = total (λ el. one_if (is_end_snd el)) els

unfoldable pub all_treated : List Element → List Element
all_treated els = iter (λ k. treated) els (end_sends els)

unfoldable pub rewritten : Pool → Pool
rewritten p = record { number = p.number; limit = p.limit; elements = all_treated p.elements }

-- ROOM for it; 28 where there is none: "some pool has fewer unused edges than endSnds, or more than 32 elements with the ends" (RULES: ends)
unfoldable pub unused_count : List Element → ℕ
unused_count els = sum (λ k. one_if (is_unused els k)) edges

unfoldable pub room_for : List Element → Bool
room_for els = leb (end_sends els) (unused_count els) && leb (length els + end_sends els) elements

unfoldable pub has_room : Pool → Bool
has_room p = room_for p.elements
