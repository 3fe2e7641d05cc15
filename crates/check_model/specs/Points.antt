-- The model checks tried on small models: one table. Each row has the model in the notation or in words, the lowest check that it breaks (0: it keeps
-- all), and the model.
use Rattle.std.specs.Prelude.{ℕ, ◌+◌, List, [], ◌∷◌, ◌++◌, replicate, set, ◌≡◌}
use Prim.Native.String.{String}
use Rattle.base_kinds.specs.Kinds.{start, start_rcv, end, end_snd, event_based, and_split, xor_join, xor_split, task, task_snd}
use Rattle.base_table.specs.Places.{operand_number, left_place, a_field, single, binding, always, default, kind_place, task_place, entries_place, exits_place, edge_place, condition_place, message_place, length_place, item_place, element_words}
use Rattle.check_model.specs.Checks.{Pool, lowest}

-- WORDS OF AN ELEMENT: places and what stands there, 0 elsewhere.
abbrev with : List (ℕ × ℕ) → List ℕ
with [] = replicate element_words 0
with (w ∷ ws) = set (with ws) w.0 w.1

-- an element with one entry and one exit (0: it has none there)
abbrev passing : ℕ → ℕ → ℕ → List (ℕ × ℕ)
passing kind e f = (kind_place, kind) ∷ (edge_place entries_place 0, e) ∷ (edge_place exits_place 0, f) ∷ []

-- message b: its name and its length; item j of it, of a form, with field d
abbrev named : ℕ → ℕ → ℕ → List (ℕ × ℕ)
named b m n = (message_place b, m) ∷ (length_place b, n) ∷ []

abbrev item : ℕ → ℕ → ℕ → ℕ → List (ℕ × ℕ)
item b j form d = (item_place b j, form) ∷ (item_place b j + left_place, a_field) ∷ (item_place b j + left_place + operand_number, d) ∷ []

-- start(e,f), end(e), endSnd(e,3:<>)
abbrev starts : ℕ → ℕ → List ℕ
starts e f = with (passing start e f)

abbrev ends : ℕ → List ℕ
ends e = with (passing end e 0)

abbrev ends_sending : ℕ → List ℕ
ends_sending e = with (passing end_snd e 0 ++ named 0 3 0)

-- startRcv(m:<?d1>,f); startRcv(3:<?c,x>,f), x with field d: `?d` or `d`; a store is a field from 16 on
abbrev receives : ℕ → ℕ → List ℕ
receives m f = with (passing start_rcv 0 f ++ (named 0 m 1 ++ item 0 0 binding 1))

abbrev receives_two : ℕ → ℕ → ℕ → ℕ → List ℕ
receives_two c form d f = with (passing start_rcv 0 f ++ (named 0 3 2 ++ (item 0 0 binding c ++ item 0 1 form d)))

-- eventBased(e,(3:<?d1>,f),(4:<?d1>,g))
abbrev awaits : ℕ → ℕ → ℕ → List ℕ
awaits e f g =
    with
    (passing event_based e f ++ ((exits_place, 2) ∷ (edge_place exits_place 1, g) ∷ (named 0 3 1 ++ (item 0 0 binding 1 ++ (named 1 4 1 ++ item 1 0 binding 1)))))

-- task(e,n,a,true,{},f), taskSnd(e,n,a,true,{},3:<>,f)
abbrev works : ℕ → ℕ → ℕ → List ℕ
works e n f = with (passing task e f ++ ((task_place, n) ∷ (condition_place 0, always) ∷ []))

abbrev works_sending : ℕ → ℕ → ℕ → List ℕ
works_sending e n f = with (passing task_snd e f ++ ((task_place, n) ∷ (condition_place 0, always) ∷ named 0 3 0))

-- andSplit(e,{f,g}), xorJoin({e,g},f), xorSplit(e,{(f,default),(g,C)})
abbrev splits : ℕ → ℕ → ℕ → List ℕ
splits e f g = with (passing and_split e f ++ ((exits_place, 2) ∷ (edge_place exits_place 1, g) ∷ []))

abbrev joins : ℕ → ℕ → ℕ → List ℕ
joins e g f = with (passing xor_join e f ++ ((entries_place, 2) ∷ (edge_place entries_place 1, g) ∷ []))

abbrev chooses : ℕ → ℕ → ℕ → ℕ → List ℕ
chooses e f g condition =
    with (passing xor_split e f ++ ((exits_place, 2) ∷ (edge_place exits_place 1, g) ∷ (condition_place 0, default) ∷ (condition_place 1, condition) ∷ []))

-- POOLS
abbrev pool : ℕ → List (List ℕ) → Pool
pool n els = record { number = n; limit = 0; elements = els }

abbrev mi_pool : ℕ → List (List ℕ) → Pool
mi_pool n els = record { number = n; limit = 4; elements = els }

-- pool(n,start(1,2)|end(2)); a pool that receives m and does no more
abbrev plain : ℕ → Pool
plain n = pool n (starts 1 2 ∷ ends 2 ∷ [])

abbrev receiving : ℕ → ℕ → Pool
receiving n m = mi_pool n (receives m 1 ∷ ends 1 ∷ [])

-- THE TABLE
pub record Point : Type 0 where
  pub says : String
  pub breaks : ℕ
  pub model : List Pool

abbrev point : String → ℕ → List Pool → Point
point says breaks model = record { says = says; breaks = breaks; model = model }

abbrev pub points : List Point
points =
    point "pool(1,start(1,2)|end(2)) beside miPool(2,startRcv(3:<?d1>,1)|end(1),4)" 0 (plain 1 ∷ receiving 2 3 ∷ []) ∷
    point "two pools 1, not one behind the other" 1 (plain 1 ∷ plain 2 ∷ plain 1 ∷ []) ∷
    point "a pool with neither start nor startRcv" 2 (plain 1 ∷ pool 2 (works 1 1 1 ∷ []) ∷ []) ∷
    point "a pool with both" 2 (pool 1 (starts 1 2 ∷ ends 2 ∷ receives 3 3 ∷ ends 3 ∷ []) ∷ []) ∷
    point "a pool with startRcv" 0 (pool 1 (receives 3 1 ∷ ends 1 ∷ []) ∷ []) ∷
    point "a miPool with start" 3 (mi_pool 1 (starts 1 2 ∷ ends 2 ∷ []) ∷ []) ∷
    point "start(1,2)|end(3)" 4 (pool 1 (starts 1 2 ∷ ends 3 ∷ []) ∷ []) ∷
    point "start(1,1)" 4 (pool 1 (starts 1 1 ∷ []) ∷ []) ∷
    point "start(1,2)|end(2)|end(1)" 4 (pool 1 (starts 1 2 ∷ ends 2 ∷ ends 1 ∷ []) ∷ []) ∷
    point "start(1,2)|andSplit(2,{3,1})|end(3)" 4 (pool 1 (starts 1 2 ∷ splits 2 3 1 ∷ ends 3 ∷ []) ∷ []) ∷
    point "start(1,2)|andSplit(2,{3,3})|end(3)" 4 (pool 1 (starts 1 2 ∷ splits 2 3 3 ∷ ends 3 ∷ []) ∷ []) ∷
    point "start(1,2)|xorJoin({2,3},3)" 0 (pool 1 (starts 1 2 ∷ joins 2 3 3 ∷ []) ∷ []) ∷
    point "start(1,2)|end(2)|task(3,1,a,true,{},3)" 0 (pool 1 (starts 1 2 ∷ ends 2 ∷ works 3 1 3 ∷ []) ∷ []) ∷
    point "task 5 and a taskSnd 5" 5 (pool 1 (starts 1 2 ∷ works 2 5 3 ∷ works_sending 3 5 4 ∷ ends 4 ∷ []) ∷ []) ∷
    point "task 5 in two pools" 0 (pool 1 (starts 1 2 ∷ works 2 5 3 ∷ ends 3 ∷ []) ∷ pool 2 (starts 1 2 ∷ works 2 5 3 ∷ ends 3 ∷ []) ∷ []) ∷
    point "a name received in two pools" 6 (receiving 1 3 ∷ receiving 2 3 ∷ []) ∷
    point "a name sent in the pool that receives it" 6 (pool 1 (receives 3 1 ∷ ends_sending 1 ∷ []) ∷ []) ∷
    point "a name sent in two others" 0 (receiving 1 3 ∷ pool 2 (starts 1 2 ∷ ends_sending 2 ∷ []) ∷ pool 3 (starts 1 2 ∷ ends_sending 2 ∷ []) ∷ []) ∷
    point "a name received twice in one pool" 0 (pool 1 (receives 3 1 ∷ awaits 1 2 3 ∷ ends 2 ∷ ends 3 ∷ []) ∷ []) ∷
    point "xorSplit(2,{(3,default),(4,default)})" 7 (pool 1 (starts 1 2 ∷ chooses 2 3 4 default ∷ ends 3 ∷ ends 4 ∷ []) ∷ []) ∷
    point "a default in each of two" 0 (pool 1 (starts 1 2 ∷ chooses 2 3 4 always ∷ ends 3 ∷ chooses 4 5 6 always ∷ ends 5 ∷ ends 6 ∷ []) ∷ []) ∷
    point "startRcv(3:<?d1,?d1>,1)" 8 (pool 1 (receives_two 1 binding 1 1 ∷ ends 1 ∷ []) ∷ []) ∷
    point "startRcv(3:<?d1,d1>,1)" 0 (pool 1 (receives_two 1 single 1 1 ∷ ends 1 ∷ []) ∷ []) ∷
    point "startRcv(3:<?s1,?s1>,1)" 8 (pool 1 (receives_two 17 binding 17 1 ∷ ends 1 ∷ []) ∷ []) ∷
    point "startRcv(3:<?d1,?s1>,1)" 0 (pool 1 (receives_two 1 binding 17 1 ∷ ends 1 ∷ []) ∷ []) ∷
    point "two branches bind the same field" 0 (pool 1 (starts 1 2 ∷ awaits 2 3 4 ∷ ends 3 ∷ ends 4 ∷ []) ∷ []) ∷
    point "8 in the first pool, 4 in the second" 4 (pool 1 (receives_two 1 binding 1 1 ∷ ends 1 ∷ []) ∷ pool 2 (starts 1 2 ∷ ends 3 ∷ []) ∷ []) ∷
    point "3 in the first pool, 2 in the second" 2 (mi_pool 1 (starts 1 2 ∷ ends 2 ∷ []) ∷ pool 2 (works 1 1 1 ∷ []) ∷ []) ∷ []

-- that rows come out
abbrev pub AllHold : List Point → Type 0
AllHold [] = Unit
AllHold (p ∷ ps) = (lowest p.model ≡ p.breaks) × AllHold ps
