-- The rewriting of `text_ends`, in the words of a table t that holds a model: p is a pool, f an edge.
use Rattle.std.specs.Prelude.{ℕ, ◌+◌, Bool, List, eqb, set}
use Rattle.base_words.specs.Blocks.{Table}
use Rattle.base_words.specs.All.{all}
use Rattle.base_words.specs.Counts.{edges}
use Rattle.base_words.specs.Iter.{iter}
use Rattle.base_words.specs.Seek.{seek}
use Rattle.base_words.specs.Sum.{sum, one_if}
use Rattle.base_kinds.specs.Kinds.{end, inter_snd}
use Rattle.base_table.specs.Places.{kind_place, entries_place, exits_place, first_edge, elements_place, element_place}
use Rattle.base_table.specs.Table.{pool_count, element_count, element_at}
use Rattle.text_ends.specs.Rewriting.{is_end_snd, mentioned}
use Rattle.base_words.specs.Words.{one_more}

-- the edge e is not mentioned; the lowest such edge
unfoldable pub absent_in : Table → ℕ → ℕ → Bool
absent_in t p e = all (λ j. eqb (mentioned e (element_at t p j)) 0) (element_count t p)

unfoldable pub unused_in : Table → ℕ → ℕ
unused_in t p = seek (λ k. absent_in t p (k + 1)) edges + 1

-- the first endSnd
unfoldable pub first_in : Table → ℕ → ℕ
first_in t p = seek (λ j. is_end_snd (element_at t p j)) (element_count t p)

-- the element at a place is of a kind now, with the one edge f in a list
unfoldable pub one_at : ℕ → ℕ → ℕ → ℕ → Table → Table
one_at place kind list f t = set (set (set t (place + kind_place) kind) (place + list) 1) (place + (list + first_edge)) f

unfoldable pub treated_with : ℕ → ℕ → ℕ → ℕ → Table → Table
treated_with p j n f t = set (one_at (element_place p n) end entries_place f (one_at (element_place p j) inter_snd exits_place f t)) (elements_place p) (one_more n)

unfoldable pub treated_in : ℕ → Table → Table
treated_in p t = treated_with p (first_in t p) (element_count t p) (unused_in t p) t

unfoldable pub ends_in : Table → ℕ → ℕ
ends_in t p = sum (λ j. one_if (is_end_snd (element_at t p j))) (element_count t p)

unfoldable pub pool_in : ℕ → Table → Table
pool_in p t = iter (λ k. treated_in p) t (ends_in t p)

unfoldable pub rewritten_in : Table → Table
rewritten_in t = iter pool_in t (pool_count t)
