-- The limits tried on small elements and tables: one table. Each row says what is tried, whether that is due to hold, and whether the definitions find
-- it so. Words that a list leaves out are 0.
use Rattle.std.specs.Prelude.{ℕ, ◌+◌, ◌≡◌, Bool, true, false, List, [], ◌∷◌, replicate, set}
use Prim.Native.String.{String}
use Rattle.base_kinds.specs.Kinds as kinds
use Rattle.base_kinds.specs.Moves.{a}
use Rattle.base_table.specs.Places.{single, binding, a_field, left_place, right_place, always, default, kind_place, task_place, mode_place, entries_place, exits_place, edge_place, condition_place, message_place, length_place, item_place, element_words}
use Rattle.check_limits.specs.Limits.{element_fits, held_fits, table_fits}

-- an element with one entry, 1, and one exit, e
abbrev passing : ℕ → ℕ → List ℕ
passing kind e =
    set (set (set (set (set (replicate element_words 0) kind_place kind) entries_place 1) (edge_place entries_place 0) 1) exits_place 1) (edge_place exits_place 0) e

-- endSnd(1,0:<>)
abbrev ending : List ℕ
ending = set (set (set (replicate element_words 0) kind_place kinds.end_snd) entries_place 1) (edge_place entries_place 0) 1

-- task(1,n,a,C,{},2), C of a form
abbrev guarded : ℕ → ℕ → List ℕ
guarded n form = set (set (set (passing kinds.task 2) task_place n) mode_place a) (condition_place 0) form

-- an element of a kind, with message m:<?d,7>
abbrev speaking : ℕ → ℕ → ℕ → List ℕ
speaking kind m d =
    set
    (set
    (set
    (set
    (set
    (set (set (passing kind 2) (message_place 0) m) (length_place 0) 2)
    (item_place 0 0)
    binding)
    (item_place 0 0 + left_place)
    a_field)
    (item_place 0 0 + left_place + 1)
    d)
    (item_place 0 1)
    single)
    (item_place 0 1 + left_place + 1)
    7

-- THE TABLE
pub record Point : Type 0 where
  pub says : String
  pub due : Bool
  pub found : Bool

infix 70 ◌holds◌ ◌fails◌
abbrev pub ◌holds◌ : String → Bool → Point
s holds b = record { says = s; due = true; found = b }

abbrev pub ◌fails◌ : String → Bool → Point
s fails b = record { says = s; due = false; found = b }

abbrev pub points : List Point
points =
    "start(1,2)" holds element_fits (passing kinds.start 2) ∷
    "an edge 48" holds element_fits (passing kinds.start 48) ∷
    "an edge 49" fails element_fits (passing kinds.start 49) ∷
    "an edge 0" fails element_fits (passing kinds.start 0) ∷
    "no kind" fails element_fits (passing 0 2) ∷
    "kind 16" fails element_fits (passing 16 2) ∷
    "a list of one edge where 2 to 8 are due" fails element_fits (passing kinds.and_join 2) ∷
    "task 16" holds element_fits (guarded 16 always) ∷
    "task 17" fails element_fits (guarded 17 always) ∷
    "a task number where there is no task" fails element_fits (set (passing kinds.start 2) task_place 1) ∷
    "a guard `default`" fails element_fits (guarded 3 default) ∷
    "interRcv(1,15:<?d15,7>,2)" holds element_fits (speaking kinds.inter_rcv 15 15) ∷
    "a name 16" fails element_fits (speaking kinds.inter_rcv 16 15) ∷
    "a field 31, the last store" holds element_fits (speaking kinds.inter_rcv 15 31) ∷
    "a field 32" fails element_fits (speaking kinds.inter_rcv 15 32) ∷
    "a bind that is sent" fails element_fits (speaking kinds.inter_snd 15 15) ∷
    "an edge behind the last" fails element_fits (set (passing kinds.start 2) (edge_place exits_place 1) 3) ∷
    "an item behind the last" fails element_fits (set (speaking kinds.inter_rcv 15 15) (item_place 0 2) single) ∷
    "a second operand of an operand alone" fails element_fits (set (speaking kinds.inter_rcv 15 15) (item_place 0 1 + right_place) a_field) ∷
    "endSnd(1,0:<>) as it is read" holds element_fits ending ∷
    "endSnd(1,0:<>) in a table" fails held_fits ending ∷
    "start(1,2) in a table" holds held_fits (passing kinds.start 2) ∷
    "no pool" fails table_fits [] ∷
    "a pool with no element" fails table_fits (1 ∷ 1 ∷ []) ∷ []

-- that rows come out
abbrev pub AllHold : List Point → Type 0
AllHold [] = Unit
AllHold (p ∷ ps) = (p.found ≡ p.due) × AllHold ps
