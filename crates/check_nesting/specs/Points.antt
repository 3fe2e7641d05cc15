-- The nested profile tried on small pools: one table.
use Rattle.std.specs.Prelude.{ℕ, ◌+◌, ◌-◌, ◌≡◌, Bool, true, false, List, [], ◌∷◌, ◌++◌, length, get_or, replicate}
use Prim.Native.String.{String}
use Rattle.base_words.specs.Counts.{branches}
use Rattle.base_kinds.specs.Kinds.{start, start_rcv, end, terminate, event_based, and_split, and_join, xor_join, xor_split, task}
use Rattle.base_table.specs.Places.{element_words, pool_words}
use Rattle.check_nesting.specs.Deciding.{is_nested}
use Rattle.check_nesting.specs.Offending.{offending}

-- an element: kind, no task number and mode, entries, exits
abbrev listed : List ℕ → List ℕ
listed es = length es ∷ (es ++ replicate (branches - length es) 0)

abbrev element : ℕ → List ℕ → List ℕ → List ℕ
element kind es xs = kind ∷ 0 ∷ 0 ∷ (listed es ++ listed xs)

abbrev one : ℕ → ℕ → ℕ → List ℕ
one kind e f = element kind (e ∷ []) (f ∷ [])

abbrev ends : ℕ → List ℕ
ends e = element end (e ∷ []) []

pub record Point : Type 0 where
  pub says : String
  pub nested : Bool
  pub pool : List (List ℕ)

abbrev point : String → Bool → List (List ℕ) → Point
point says nested pool = record { says = says; nested = nested; pool = pool }

abbrev pub points : List Point
points =
    point "start(1,2)|end(2)" true (one start 1 2 ∷ ends 2 ∷ []) ∷
    point "an and block, its branches empty, the join's entries turned" true (one start 1 2 ∷ element and_split (2 ∷ []) (3 ∷ 4 ∷ []) ∷ element and_join (4 ∷ 3 ∷ []) (5 ∷ []) ∷ ends 5 ∷ []) ∷
    point "a task in a branch, elements in another order" true (ends 5 ∷ one task 4 6 ∷ element and_join (6 ∷ 3 ∷ []) (5 ∷ []) ∷ element and_split (2 ∷ []) (3 ∷ 4 ∷ []) ∷ element start_rcv [] (2 ∷ []) ∷ []) ∷
    point "eventBased closed by xorJoin" true (one start 1 2 ∷ element event_based (2 ∷ []) (3 ∷ 4 ∷ []) ∷ element xor_join (3 ∷ 4 ∷ []) (5 ∷ []) ∷ ends 5 ∷ []) ∷
    point "andSplit closed by xorJoin" false (one start 1 2 ∷ element and_split (2 ∷ []) (3 ∷ 4 ∷ []) ∷ element xor_join (3 ∷ 4 ∷ []) (5 ∷ []) ∷ ends 5 ∷ []) ∷
    point "terminate" false (one start 1 2 ∷ element terminate (2 ∷ []) [] ∷ []) ∷
    point "two ends" false (one start 1 2 ∷ element xor_split (2 ∷ []) (3 ∷ 4 ∷ []) ∷ ends 3 ∷ ends 4 ∷ []) ∷
    point "a loop beside a good rest" false (one start 1 2 ∷ ends 2 ∷ one task 3 3 ∷ []) ∷
    point "one join for two splits" false (one start 1 2 ∷ element and_split (2 ∷ []) (3 ∷ 4 ∷ []) ∷ element and_split (3 ∷ []) (5 ∷ 6 ∷ []) ∷ element and_join (4 ∷ 5 ∷ 6 ∷ []) (7 ∷ []) ∷ ends 7 ∷ []) ∷
    point "two joins for one split" false (one start 1 2 ∷ element and_split (2 ∷ []) (3 ∷ 4 ∷ 5 ∷ []) ∷ element and_join (3 ∷ 4 ∷ []) (6 ∷ []) ∷ element and_join (6 ∷ 5 ∷ []) (7 ∷ []) ∷ ends 7 ∷ []) ∷
    point "a block in a branch" true (one start 1 2 ∷ element xor_split (2 ∷ []) (3 ∷ 4 ∷ []) ∷ element and_split (3 ∷ []) (5 ∷ 6 ∷ []) ∷ element and_join (5 ∷ 6 ∷ []) (7 ∷ []) ∷ element xor_join (7 ∷ 4 ∷ []) (8 ∷ []) ∷ ends 8 ∷ []) ∷
    point "block behind block" true (one start 1 2 ∷ element and_split (2 ∷ []) (3 ∷ 4 ∷ []) ∷ element and_join (3 ∷ 4 ∷ []) (5 ∷ []) ∷ element xor_split (5 ∷ []) (6 ∷ 7 ∷ []) ∷ element xor_join (6 ∷ 7 ∷ []) (8 ∷ []) ∷ ends 8 ∷ []) ∷
    point "crossed branches" false (one start 1 2 ∷ element and_split (2 ∷ []) (3 ∷ 4 ∷ []) ∷ element and_split (3 ∷ []) (5 ∷ 6 ∷ []) ∷ element and_join (4 ∷ 5 ∷ []) (7 ∷ []) ∷ element and_join (6 ∷ 7 ∷ []) (8 ∷ []) ∷ ends 8 ∷ []) ∷
    point "a loop on the way" false (one start 1 2 ∷ element xor_join (2 ∷ 6 ∷ []) (3 ∷ []) ∷ one task 3 4 ∷ element xor_split (4 ∷ []) (5 ∷ 6 ∷ []) ∷ ends 5 ∷ []) ∷ []

abbrev pub AllHold : List Point → Type 0
AllHold [] = Unit
AllHold (p ∷ ps) = (is_nested (λ k. get_or p.pool k []) (length p.pool) ≡ p.nested) × AllHold ps

-- A TABLE of three pools, 5, 9 and 2, of which the second and the third are not nested
abbrev padded : ℕ → List ℕ → List ℕ
padded n xs = xs ++ replicate (n - length xs) 0

abbrev small : ℕ → ℕ → List ℕ
small number kind =
    padded pool_words (number ∷ 0 ∷ 2 ∷ (padded element_words (one start 1 2) ++ padded element_words (element kind (2 ∷ []) [])))

abbrev pub table : List ℕ
table = 3 ∷ (small 5 end ++ (small 9 terminate ++ small 2 terminate))

-- WHERE POOLS OFFEND, by the place of an element in the text
pub record Offence : Type 0 where
  pub says : String
  pub element : ℕ
  pub pool : List (List ℕ)

abbrev offence : String → ℕ → List (List ℕ) → Offence
offence says element pool = record { says = says; element = element; pool = pool }

abbrev pub offences : List Offence
offences =
    offence "none in a nested pool" 2 (one start 1 2 ∷ ends 2 ∷ []) ∷
    offence "no start" 0 (one task 1 2 ∷ ends 2 ∷ []) ∷
    offence "terminate" 1 (one start 1 2 ∷ element terminate (2 ∷ []) [] ∷ []) ∷
    offence "an andSplit that an xorJoin would close" 1 (one start 1 2 ∷ element and_split (2 ∷ []) (3 ∷ 4 ∷ []) ∷ element xor_join (3 ∷ 4 ∷ []) (5 ∷ []) ∷ ends 5 ∷ []) ∷
    offence "a split whose branches end" 2 (one start 1 5 ∷ one task 5 2 ∷ element xor_split (2 ∷ []) (3 ∷ 4 ∷ []) ∷ ends 3 ∷ ends 4 ∷ []) ∷
    offence "a join that closes no split" 3 (ends 5 ∷ one start 1 2 ∷ one task 3 4 ∷ element xor_join (2 ∷ 6 ∷ []) (3 ∷ []) ∷ element xor_split (4 ∷ []) (5 ∷ 6 ∷ []) ∷ []) ∷
    offence "an element that is not met" 1 (one start 1 2 ∷ one task 3 3 ∷ ends 2 ∷ []) ∷ []

abbrev pub AllOffend : List Offence → Type 0
AllOffend [] = Unit
AllOffend (o ∷ os) = (offending (λ k. get_or o.pool k []) (length o.pool) ≡ o.element) × AllOffend os
