-- What fits, tried on one pool: one table, as for the limits. Words that a list leaves out are 0.
use Rattle.std.specs.Prelude.{ℕ, Bool, List, [], ◌∷◌, ◌++◌, replicate, set}
use Rattle.base_kinds.specs.Kinds.{start, start_rcv, task, task_rcv}
use Rattle.base_kinds.specs.Moves.{a, na_c}
use Rattle.base_table.specs.Places.{kind_place, task_place, mode_place, entries_place, exits_place, edge_place, element_words}
use Rattle.base_state.specs.Places.{value_place, instance_words, shared_place, slot_place}
use Rattle.base_state.specs.Instances.{with_tokens, with_active, with_ready, with_field}
use Rattle.check_limits.specs.Points.{Point, ◌holds◌, ◌fails◌}
use Rattle.state_fits.specs.Fits.{made_fits, usable, instance_fits, shared_fits, slot_fits}

-- WORDS OF A TABLE: an element with task number 1, of a mode, from edge 1 to edge 2; a table with one pool and that element
abbrev element : ℕ → ℕ → List ℕ
element kind mode =
    set
    (set (set (set (set (replicate element_words 0) kind_place kind) task_place 1) mode_place mode) (edge_place entries_place 0) 1)
    (edge_place exits_place 0)
    2

abbrev table : ℕ → List ℕ → List ℕ
table limit el = 1 ∷ 1 ∷ limit ∷ 1 ∷ el

-- whether the pool may have made so many instances
abbrev making : ℕ → ℕ → ℕ → Bool
making kind limit made = made_fits (table limit (element kind 0)) 0 made

-- WORDS OF AN INSTANCE, and whether it fits a pool with that element
abbrev blank : List ℕ
blank = replicate instance_words 0

abbrev fitting : ℕ → ℕ → List ℕ → Bool
fitting kind mode h = instance_fits (usable (table 0 (element kind mode)) 0) h

-- WORDS OF A STATE up to its first store's, which are given
abbrev board : List ℕ → List ℕ
board w = replicate shared_place 0 ++ w

-- WORDS OF A QUEUE: its first message has a length and two values
abbrev queue : ℕ → ℕ → ℕ → List ℕ
queue n x y = replicate (slot_place 0 0) 0 ++ (n ∷ x ∷ y ∷ [])

-- THE TABLE
abbrev pub points : List Point
points =
    "a pool with start, one instance" holds making start 0 1 ∷
    "a pool with start, none" fails making start 0 0 ∷
    "a pool with start, two" fails making start 0 2 ∷
    "a pool with startRcv, none" holds making start_rcv 0 0 ∷
    "a pool with startRcv, two" fails making start_rcv 0 2 ∷
    "a miPool with n 2, two" holds making start_rcv 2 2 ∷
    "a miPool with n 2, three" fails making start_rcv 2 3 ∷
    "an instance behind the last pool" fails made_fits (table 0 (element start 0)) 1 1 ∷
    "255 tokens on an edge of the table" holds fitting task a (with_tokens blank 2 255) ∷
    "256 tokens" fails fitting task a (with_tokens blank 2 256) ∷
    "a token on no edge of the table" fails fitting task a (with_tokens blank 3 1) ∷
    "an active count of an atomic task" fails fitting task a (with_active blank 1 1) ∷
    "an active count of an na task" holds fitting task na_c (with_active blank 1 1) ∷
    "a ready count of a `task`" fails fitting task na_c (with_ready blank 1 1) ∷
    "a ready count of a `taskRcv`" holds fitting task_rcv na_c (with_ready blank 1 1) ∷
    "a field" holds fitting task a (with_field blank 3 7) ∷
    "an undefined field's value" fails fitting task a (set blank (value_place 3) 7) ∷
    "a store of 7, one undefined, a store of 0" holds shared_fits (board (1 ∷ 7 ∷ 0 ∷ 0 ∷ 1 ∷ 0 ∷ [])) ∷
    "an undefined store's value" fails shared_fits (board (0 ∷ 7 ∷ [])) ∷
    "a store with flag 2" fails shared_fits (board (0 ∷ 0 ∷ 2 ∷ 7 ∷ [])) ∷
    "a message of two values" holds slot_fits (queue 2 7 9) 0 0 ∷
    "a value behind the last" fails slot_fits (queue 1 7 9) 0 0 ∷
    "a message of five values" fails slot_fits (queue 5 7 9) 0 0 ∷ []
