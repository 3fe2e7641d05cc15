-- "Model checks, in this order" of document 01. A model is the list of its pools, in the text's order; a pool is its number, its limit (n of a
-- miPool, 0 of a `pool`) and its elements. (RULES: checks)
use Rattle.std.specs.Prelude.{Bool, true, not, ◌&&◌, List, ℕ, ◌+◌, eqb, leb, ltb}
use Rattle.base_words.specs.Blocks.{Element}
use Rattle.base_words.specs.All.{all}
use Rattle.base_words.specs.Each.{total, each}
use Rattle.base_words.specs.Pick.{if◌then◌or_else◌}
use Rattle.base_words.specs.Sum.{hit, one_if}
use Rattle.base_words.specs.Counts.{pool_numbers, edges, tasks, names}
use Rattle.base_kinds.specs.Kinds.{start, start_rcv}
use Rattle.check_occurrences.specs.Occurrences.{of_kind, as_exit, as_entry, as_first, as_task, as_received, as_sent, default_once, bound_once}

pub record Pool : Type 0 where
  pub number : ℕ
  pub limit : ℕ
  pub elements : List Element

-- 1. Pool numbers differ.
abbrev pub numbers_differ : ℕ
numbers_differ = 1

unfoldable pub check1 : List Pool → Bool
check1 ps = all (λ k. leb (total (λ p. hit p.number (k + 1)) ps) 1) pool_numbers

-- 2. Each pool has exactly one `start` or `startRcv`.
abbrev pub one_start : ℕ
one_start = 2

unfoldable pub check2 : Pool → Bool
check2 p = eqb (total (of_kind start) p.elements + total (of_kind start_rcv) p.elements) 1

-- 3. In a miPool it is `startRcv`.
abbrev pub start_receives : ℕ
start_receives = 3

unfoldable pub check3 : Pool → Bool
check3 p = if eqb p.limit 0 then true or_else eqb (total (of_kind start) p.elements) 0

-- 4. Each edge stands exactly once as an exit and exactly once as an entry; the first edge of `start` is an entry only.
-- (x, n, f: how often it stands as an exit, as an entry, as the first edge of a `start`. An edge that stands nowhere is no edge of the pool.)
abbrev pub edges_meet : ℕ
edges_meet = 4

unfoldable pub edge_right : ℕ → ℕ → ℕ → Bool
edge_right x n f = if eqb (x + n) 0 then true or_else eqb n 1 && eqb x (if eqb f 0 then 1 or_else 0)

unfoldable pub check4 : Pool → Bool
check4 p =
    all (λ k. edge_right (total (as_exit (k + 1)) p.elements) (total (as_entry (k + 1)) p.elements) (total (as_first (k + 1)) p.elements)) edges

-- 5. Task numbers differ within a pool.
abbrev pub tasks_differ : ℕ
tasks_differ = 5

unfoldable pub check5 : Pool → Bool
check5 p = all (λ k. leb (total (as_task (k + 1)) p.elements) 1) tasks

-- 6. A message name is received in at most one pool and not sent there.
abbrev pub names_apart : ℕ
names_apart = 6

unfoldable pub pool_receives : ℕ → Pool → Bool
pool_receives m p = ltb 0 (total (as_received m) p.elements)

unfoldable pub pool_sends : ℕ → Pool → Bool
pool_sends m p = ltb 0 (total (as_sent m) p.elements)

unfoldable pub not_sent_there : Pool → Bool
not_sent_there p = all (λ m. not (pool_receives m p && pool_sends m p)) names

unfoldable pub check6 : List Pool → Bool
check6 ps = all (λ m. leb (total (λ p. one_if (pool_receives m p)) ps) 1) names && each not_sent_there ps

-- 7. At most one default in an xorSplit.
abbrev pub one_default : ℕ
one_default = 7

unfoldable pub check7 : Pool → Bool
check7 p = each default_once p.elements

-- 8. No field, of an instance or a store, is bound twice in one template.
abbrev pub binds_differ : ℕ
binds_differ = 8

unfoldable pub check8 : Pool → Bool
check8 p = each bound_once p.elements

-- how many checks there are
abbrev pub checks : ℕ
checks = binds_differ

-- the lowest check broken, over the whole model; 0 where none is
unfoldable pub lowest : List Pool → ℕ
lowest ps =
    if not (check1 ps) then numbers_differ or_else
    if not (each check2 ps) then one_start or_else
    if not (each check3 ps) then start_receives or_else
    if not (each check4 ps) then edges_meet or_else
    if not (each check5 ps) then tasks_differ or_else
    if not (check6 ps) then names_apart or_else
    if not (each check7 ps) then one_default or_else
    if not (each check8 ps) then binds_differ or_else 0
