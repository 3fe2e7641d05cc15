-- The rules of the paper's figures 7 to 9, one row each: what a step by the rule asks for and what it does.
-- (P-XorSplit is the paper's two, of a true condition and of the default: the branch's own condition says which.)
use Rattle.std.specs.Prelude.{ℕ, Bool, ◌&&◌, List, [], ◌∷◌, eqb, get_or}
use Rattle.base_words.specs.Pick.{if◌then◌or_else◌}
use Rattle.base_words.specs.Seek.{seek}
use Rattle.base_kinds.specs.declared.moves.Move.{Move}
use Rattle.base_kinds.specs.Cells.{Cell, ◌holding◌, cell}
use Rattle.base_kinds.specs.Kinds.{start, start_rcv, end, terminate, end_snd, inter_rcv, inter_snd, event_based, and_split, and_join, xor_join, xor_split, task, task_rcv, task_snd}

-- modes of a task: atomic, not atomic and concurrent or not; a row `na` is for both of the latter; o: no mode, or a cell with nothing
abbrev pub o : ℕ
o = 0

abbrev pub a : ℕ
a = 1

abbrev pub na_c : ℕ
na_c = 2

abbrev pub na_nc : ℕ
na_nc = 3

abbrev pub na : ℕ
na = na_c

-- no mode and a task's three; no phase and its three
abbrev pub modes : ℕ
modes = 4

abbrev pub phases : ℕ
phases = 4

-- What a rule does. It takes tokens from entries and puts them on exits: every one that the element has, or the branch's alone.
abbrev pub every : ℕ
every = 1

abbrev pub branch : ℕ
branch = 2

abbrev takes_column : ℕ
takes_column = 0

abbrev puts_column : ℕ
puts_column = 1

abbrev takes : ℕ → Cell
takes x = takes_column holding x

abbrev puts : ℕ → Cell
puts x = puts_column holding x

-- It asks the guard, or the branch's condition; receives; assigns; sends.
abbrev pub on : ℕ
on = 1

abbrev asks_column : ℕ
asks_column = 2

abbrev receives_column : ℕ
receives_column = 3

abbrev assigns_column : ℕ
assigns_column = 4

abbrev sends_column : ℕ
sends_column = 5

abbrev asks : Cell
asks = asks_column holding on

abbrev receives : Cell
receives = receives_column holding on

abbrev assigns : Cell
assigns = assigns_column holding on

abbrev sends : Cell
sends = sends_column holding on

-- It raises or lowers a count of the task, and needs both counts 0 where the mode is na_nc.
abbrev pub up : ℕ
up = 1

abbrev pub down : ℕ
down = 2

abbrev active_column : ℕ
active_column = 6

abbrev ready_column : ℕ
ready_column = 7

abbrev alone_column : ℕ
alone_column = 8

abbrev active : ℕ → Cell
active x = active_column holding x

abbrev ready : ℕ → Cell
ready x = ready_column holding x

abbrev alone : Cell
alone = alone_column holding on

-- Also: the instance is made by the step; its tokens and task counts are cleared.
abbrev pub making : ℕ
making = 1

abbrev pub clearing : ℕ
clearing = 2

abbrev also_column : ℕ
also_column = 9

abbrev makes : Cell
makes = also_column holding making

abbrev clears : Cell
clears = also_column holding clearing

abbrev rule : ℕ → ℕ → ℕ → List Cell → Move
rule kind mode phase deeds =
    record {
      kind = kind;
      mode = mode;
      phase = phase;
      takes = cell takes_column deeds;
      puts = cell puts_column deeds;
      asks = cell asks_column deeds;
      receives = cell receives_column deeds;
      assigns = cell assigns_column deeds;
      sends = cell sends_column deeds;
      active = cell active_column deeds;
      ready = cell ready_column deeds;
      alone = cell alone_column deeds;
      also = cell also_column deeds;
    }

-- the row where there is no rule
abbrev pub no_move : Move
no_move = rule 0 o 0 []

abbrev pub moves : List Move
moves =
    -- kind, mode, phase, what it does
    rule start o 0 (takes every ∷ puts every ∷ []) ∷  -- P-Start
    rule start_rcv o 0 (makes ∷ receives ∷ puts every ∷ []) ∷  -- P-StartRcv
    rule end o 0 (takes every ∷ []) ∷  -- P-End
    rule terminate o 0 (takes every ∷ clears ∷ []) ∷  -- P-Terminate
    rule end_snd o 0 (takes every ∷ sends ∷ []) ∷  -- P-EndSnd
    rule inter_rcv o 0 (takes every ∷ receives ∷ puts every ∷ []) ∷  -- P-InterRcv
    rule inter_snd o 0 (takes every ∷ sends ∷ puts every ∷ []) ∷  -- P-InterSnd
    rule event_based o 0 (takes every ∷ receives ∷ puts branch ∷ []) ∷  -- P-EventG
    rule and_split o 0 (takes every ∷ puts every ∷ []) ∷  -- P-AndSplit
    rule and_join o 0 (takes every ∷ puts every ∷ []) ∷  -- P-AndJoin
    rule xor_join o 0 (takes branch ∷ puts every ∷ []) ∷  -- P-XorJoin
    rule xor_split o 0 (takes every ∷ asks ∷ puts branch ∷ []) ∷  -- P-XorSplit
    rule task a 0 (takes every ∷ asks ∷ assigns ∷ puts every ∷ []) ∷  -- P-Task-A
    rule task_rcv a 0 (takes every ∷ asks ∷ receives ∷ assigns ∷ puts every ∷ []) ∷  -- P-TaskRcv-A
    rule task_snd a 0 (takes every ∷ asks ∷ assigns ∷ sends ∷ puts every ∷ []) ∷  -- P-TaskSnd-A
    rule task na 1 (takes every ∷ alone ∷ asks ∷ active up ∷ []) ∷  -- P-Task-N1
    rule task_rcv na 1 (takes every ∷ alone ∷ asks ∷ active up ∷ []) ∷  -- P-TaskRcv-N1
    rule task_snd na 1 (takes every ∷ alone ∷ asks ∷ active up ∷ []) ∷  -- P-TaskSnd-N1
    rule task na 3 (active down ∷ assigns ∷ puts every ∷ []) ∷  -- P-Task-N2
    rule task_rcv na 2 (receives ∷ active down ∷ ready up ∷ []) ∷  -- P-TaskRcv-N2
    rule task_rcv na 3 (ready down ∷ assigns ∷ puts every ∷ []) ∷  -- P-TaskRcv-N3
    rule task_snd na 2 (assigns ∷ active down ∷ ready up ∷ []) ∷  -- P-TaskSnd-N2
    rule task_snd na 3 (sends ∷ ready down ∷ puts every ∷ []) ∷  -- P-TaskSnd-N3
    no_move ∷ []

-- how many rules there are
abbrev pub rules : ℕ
rules = 23

-- a row's mode stands for a task's: na for na-c and for na-nc
unfoldable pub mode_of : ℕ → ℕ
mode_of m = if eqb m na_nc then na or_else m

unfoldable pub is_rule : ℕ → ℕ → ℕ → ℕ → Bool
is_rule k m p r = eqb (get_or moves r no_move).kind k && eqb (get_or moves r no_move).mode (mode_of m) && eqb (get_or moves r no_move).phase p

-- the number of the rule of a kind, mode and phase; `rules` where there is none
unfoldable pub rule_of : ℕ → ℕ → ℕ → ℕ
rule_of k m p = seek (is_rule k m p) rules

-- its row
unfoldable pub move_of : ℕ → ℕ → ℕ → Move
move_of k m p = get_or moves (rule_of k m p) no_move
