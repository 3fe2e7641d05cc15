-- WHETHER A POOL IS NESTED, decided: "go along from the start; at a split walk all branches to the join they run into". Each edge has one taker, so one walk
-- decides. P k is the words of element k of a pool, c how many it has. (RULES: nested)
use Rattle.std.specs.Prelude.{ℕ, zero, suc, ◌+◌, Bool, not, ◌&&◌, List, [], ◌∷◌, ◌++◌, eqb, ltb, replicate}
use Rattle.base_words.specs.Blocks.{Table, Element}
use Rattle.base_words.specs.All.{all}
use Rattle.base_words.specs.Pick.{if◌then◌or_else◌}
use Rattle.base_words.specs.Seek.{seek}
use Rattle.base_words.specs.Words.{at}
use Rattle.base_words.specs.Counts.{edges, elements}
use Rattle.base_kinds.specs.Kinds.{end}
use Rattle.base_table.specs.Table.{pool_count, element_count, element_at, kind_in, entry_count, entry_at, exit_at}
use Rattle.check_tally.specs.Tally.{tally}
use Rattle.check_nesting.specs.Nesting.{passes, starts, closes, exits_of, entries_of}

-- the entry of an element at which the edge a stands; the element that takes a token from it; how many there are where there is none
unfoldable pub entry_of : Element → ℕ → ℕ
entry_of el a = seek (λ j. eqb (entry_at el j) a) (entry_count el)

unfoldable pub takes : Element → ℕ → Bool
takes el a = ltb (entry_of el a) (entry_count el)

unfoldable pub taker : (ℕ → Element) → ℕ → ℕ → ℕ
taker P c a = seek (λ k. takes (P k) a) c

-- edges told by a tally; the same edges, each not at all, once or several times
unfoldable pub edges_in : List ℕ → List ℕ
edges_in xs = tally (replicate (edges + 1) 0) xs

unfoldable pub same_edges : List ℕ → List ℕ → Bool
same_edges s e = all (λ f. eqb (at s f) (at e f)) (edges + 1)

-- A WALK along a sequence: the edge where it stops, and the elements on the way
pub record SequenceWalk : Type 0 where
  pub stop : ℕ
  pub on : List ℕ

abbrev pub halted : ℕ → SequenceWalk
halted a = record { stop = a; on = [] }

abbrev pub walked_over : List ℕ → SequenceWalk → SequenceWalk
walked_over ks w = record { stop = w.stop; on = ks ++ w.on }

-- several walks side by side
unfoldable pub stops : (ℕ → SequenceWalk) → List ℕ → List ℕ
stops go [] = []
stops go (x ∷ xs) = (go x).stop ∷ stops go xs

unfoldable pub elements_passed : (ℕ → SequenceWalk) → List ℕ → List ℕ
elements_passed go [] = []
elements_passed go (x ∷ xs) = (go x).on ++ elements_passed go xs

unfoldable pub last_in : List ℕ → ℕ
last_in [] = 0
last_in (x ∷ []) = x
last_in (x ∷ y ∷ ys) = last_in (y ∷ ys)

-- the join that the branches of the split k run into, one of them at the edge a, s telling where they stop, and whether it closes the split; c where none does
unfoldable pub is_block : (ℕ → Element) → ℕ → List ℕ → ℕ → ℕ → Bool
is_block P c s k j = ltb j c && (closes (P k) (P j) && same_edges s (edges_in (entries_of (P j))))

unfoldable pub closing_join : (ℕ → Element) → ℕ → ℕ → ℕ → List ℕ → ℕ
closing_join P c k a s = if is_block P c s k (taker P c a) then taker P c a or_else c

unfoldable pub join_of : (ℕ → Element) → ℕ → (ℕ → SequenceWalk) → ℕ → ℕ
join_of P c go k = closing_join P c k (last_in (stops go (exits_of (P k)))) (edges_in (stops go (exits_of (P k))))

-- on by the element k: an element of a sequence is passed, a split with all its branches up to the join
unfoldable pub ahead : (ℕ → Element) → ℕ → (ℕ → SequenceWalk) → ℕ → ℕ → SequenceWalk
ahead P c go a k =
    if passes (P k) then walked_over (k ∷ []) (go (exit_at (P k) 0))
    or_else if ltb (join_of P c go k) c
    then walked_over (k ∷ join_of P c go k ∷ elements_passed go (exits_of (P k))) (go (exit_at (P (join_of P c go k)) 0))
    or_else halted a

-- on from the edge a, by at most n elements, one behind or within the other
unfoldable pub sequence_walk : (ℕ → Element) → ℕ → ℕ → ℕ → SequenceWalk
sequence_walk P c zero a = halted a
sequence_walk P c (suc n) a = if ltb (taker P c a) c then ahead P c (sequence_walk P c n) a (taker P c a) or_else halted a

-- THE POOL: a start; the walk from its exit stops at an end; every element is met, once
unfoldable pub first_of : (ℕ → Element) → ℕ → ℕ
first_of P c = seek (λ k. starts (P k)) c

-- the walk from the exit of the element k
unfoldable pub whole_walk : (ℕ → Element) → ℕ → ℕ → SequenceWalk
whole_walk P c k = sequence_walk P c elements (exit_at (P k) 0)

unfoldable pub last_of : (ℕ → Element) → ℕ → ℕ → ℕ
last_of P c k = taker P c (whole_walk P c k).stop

unfoldable pub each_once : ℕ → List ℕ → Bool
each_once c ks = all (λ k. eqb (at (tally (replicate elements 0) ks) k) 1) c

unfoldable pub meets_all : (ℕ → Element) → ℕ → ℕ → ℕ → Bool
meets_all P c first last = each_once c (first ∷ last ∷ (whole_walk P c first).on)

unfoldable pub ends_at : (ℕ → Element) → ℕ → ℕ → ℕ → Bool
ends_at P c first last = ltb last c && (eqb (kind_in (P last)) end && meets_all P c first last)

unfoldable pub is_nested : (ℕ → Element) → ℕ → Bool
is_nested P c = ltb (first_of P c) c && ends_at P c (first_of P c) (last_of P c (first_of P c))

-- A TABLE: the first pool, in text order, that is not nested; how many there are where all are
unfoldable pub unnested : Table → ℕ
unnested t = seek (λ p. not (is_nested (element_at t p) (element_count t p))) (pool_count t)
