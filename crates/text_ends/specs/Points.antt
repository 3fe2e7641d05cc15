-- The rewriting tried on small pools: one table. Each row has the pool's elements in the notation, what is due, and what the definitions find: of each element its kind, its first entry and its first exit.
use Rattle.std.specs.Prelude.{ℕ, ◌+◌, ◌≡◌, Bool, true, false, List, [], ◌∷◌, ◌++◌, map, set, replicate}
use Prim.Native.String.{String}
use Rattle.base_words.specs.Counts.{branches}
use Rattle.base_words.specs.Each.{tab}
use Rattle.base_words.specs.Writes.{writes}
use Rattle.base_kinds.specs.Kinds as kinds
use Rattle.base_table.specs.Places.{kind_place, entries_place, exits_place, edge_place, element_words}
use Rattle.base_table.specs.Table.{kind_in, entry_at, exit_at}
use Rattle.text_ends.specs.Rewriting.{all_treated, room_for}

-- an element of a kind with a first entry and a first exit (0: none); and with a second exit
abbrev piece : ℕ → ℕ → ℕ → List ℕ
piece kind e f = set (set (set (replicate element_words 0) kind_place kind) (edge_place entries_place 0) e) (edge_place exits_place 0) f

abbrev forked : ℕ → ℕ → ℕ → ℕ → List ℕ
forked kind e f g = set (piece kind e f) (edge_place exits_place 1) g

-- 16 edges from e on
abbrev crowd : ℕ → List ℕ
crowd e = writes (λ j. e + j) (writes (λ j. e + 8 + j) (replicate element_words 0) (edge_place exits_place 0) branches) (edge_place entries_place 0) branches

abbrev start : ℕ → ℕ → List ℕ
start e f = piece kinds.start e f

abbrev end_snd : ℕ → List ℕ
end_snd e = piece kinds.end_snd e 0

-- n tasks in a row, from edge e to edge e + n
abbrev row : ℕ → ℕ → List (List ℕ)
row e n = tab (λ j. piece kinds.task (e + j) (e + j + 1)) n

abbrev Seen : Type 0
Seen = ℕ × ℕ × ℕ

abbrev seen : List ℕ → Seen
seen el = (kind_in el, entry_at el 0, exit_at el 0)

-- WHAT THE POOLS BECOME
pub record Point : Type 0 where
  pub says : String
  pub due : List Seen
  pub found : List Seen

infix 70 ◌becomes◌from◌
abbrev pub ◌becomes◌from◌ : String → List Seen → List (List ℕ) → Point
s becomes d from els = record { says = s; due = d; found = map seen (all_treated els) }

abbrev pub points : List Point
points =
    ("start(1,2)|endSnd(2,3:<>)" becomes (kinds.start, 1, 2) ∷ (kinds.inter_snd, 2, 3) ∷ (kinds.end, 3, 0) ∷ [] from (start 1 2 ∷ end_snd 2 ∷ [])) ∷
    ("start(2,3)|endSnd(3,3:<1>)" becomes (kinds.start, 2, 3) ∷ (kinds.inter_snd, 3, 1) ∷ (kinds.end, 1, 0) ∷ [] from (start 2 3 ∷ end_snd 3 ∷ [])) ∷
    ("start(1,3)|xorSplit(3,{(5,true),(6,default)})|endSnd(5,3:<>)|endSnd(6,4:<d0>)"
    becomes (kinds.start, 1, 3) ∷ (kinds.xor_split, 3, 5) ∷ (kinds.inter_snd, 5, 2) ∷ (kinds.inter_snd, 6, 4) ∷ (kinds.end, 2, 0) ∷ (kinds.end, 4, 0) ∷ []
    from (start 1 3 ∷ forked kinds.xor_split 3 5 6 ∷ end_snd 5 ∷ end_snd 6 ∷ [])) ∷
    ("endSnd(2,3:<>)|start(1,2)" becomes (kinds.inter_snd, 2, 3) ∷ (kinds.start, 1, 2) ∷ (kinds.end, 3, 0) ∷ [] from (end_snd 2 ∷ start 1 2 ∷ [])) ∷
    ("start(1,2)|end(2)" becomes (kinds.start, 1, 2) ∷ (kinds.end, 2, 0) ∷ [] from (start 1 2 ∷ piece kinds.end 2 0 ∷ [])) ∷ []

-- WHETHER THERE IS ROOM
pub record Place : Type 0 where
  pub says : String
  pub due : Bool
  pub found : Bool

infix 70 ◌has◌for◌
abbrev pub ◌has◌for◌ : String → Bool → List (List ℕ) → Place
s has d for els = record { says = s; due = d; found = room_for els }

abbrev pub places : List Place
places =
    ("31 elements, the last an endSnd" has true for ((start 1 2 ∷ row 2 29) ++ (end_snd 31 ∷ []))) ∷
    ("32 elements, the last an endSnd" has false for ((start 1 2 ∷ row 2 30) ++ (end_snd 32 ∷ []))) ∷
    ("32 elements and no endSnd" has true for ((start 1 2 ∷ row 2 30) ++ (piece kinds.end 32 0 ∷ []))) ∷
    ("31 elements, two of them endSnds" has false for ((start 1 2 ∷ forked kinds.and_split 2 3 40 ∷ row 3 27) ++ (end_snd 30 ∷ end_snd 40 ∷ []))) ∷
    ("47 edges in use, 16 in each of three elements but one twice" has true for (crowd 1 ∷ crowd 17 ∷ crowd 32 ∷ end_snd 47 ∷ [])) ∷
    ("all 48 edges in use" has false for (crowd 1 ∷ crowd 17 ∷ crowd 33 ∷ end_snd 48 ∷ [])) ∷ []

-- that rows come out
abbrev pub AllBecome : List Point → Type 0
AllBecome [] = Unit
AllBecome (p ∷ ps) = (p.found ≡ p.due) × AllBecome ps

abbrev pub AllHave : List Place → Type 0
AllHave [] = Unit
AllHave (p ∷ ps) = (p.found ≡ p.due) × AllHave ps
