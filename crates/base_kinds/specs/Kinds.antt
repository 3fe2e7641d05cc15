-- "A constant table gives each of the fifteen kinds its keyword and its entries and exits." What else an element's text has stands beside them:
-- reading, writing, limits, checks and stepping are read off this table. (RULES: elements)
use Rattle.std.specs.Prelude.{List, [], ◌∷◌, ◌++◌, ℕ, ◌-◌, eqb, length, get_or, take, replicate}
use Prim.Native.String.{String}
use Rattle.base_words.specs.Blocks.{Bytes}
use Rattle.base_words.specs.Pick.{if◌then◌or_else◌}
use Rattle.base_words.specs.Text.{bytes}
use Rattle.base_kinds.specs.declared.Kind.{Kind}
use Rattle.base_kinds.specs.Cells.{Cell, ◌holding◌, cell}

-- How many there are: none; one; or many, which is a list of 2 to 8 entries or exits, or one condition or message with each exit.
abbrev pub none : ℕ
none = 0

abbrev pub one : ℕ
one = 1

abbrev pub many : ℕ
many = 2

-- What an element may have beside its entries and exits: task number, mode and assignments; conditions; messages received; messages sent.
abbrev task_column : ℕ
task_column = 0

abbrev conditions_column : ℕ
conditions_column = 1

abbrev receives_column : ℕ
receives_column = 2

abbrev sends_column : ℕ
sends_column = 3

abbrev task_part : Cell
task_part = task_column holding one

abbrev conditions : ℕ → Cell
conditions n = conditions_column holding n

abbrev receives : ℕ → Cell
receives n = receives_column holding n

abbrev sends : ℕ → Cell
sends n = sends_column holding n

-- the bytes of a text, blanks behind them up to n
abbrev pub padded : ℕ → String → Bytes
padded n w = bytes w ++ replicate (n - length (bytes w)) 32

abbrev kind : String → String → ℕ → ℕ → List Cell → Kind
kind word parts entries exits others =
    record {
      keyword = padded 10 word;
      letters = length (bytes word);
      parts = padded 4 parts;
      entries = entries;
      exits = exits;
      task = cell task_column others;
      conditions = cell conditions_column others;
      receives = cell receives_column others;
      sends = cell sends_column others;
    }

-- the row of a number that is no kind
abbrev pub no_kind : Kind
no_kind = kind "" "" none none []

-- The parts of an element's text, in order: E entry, X exit, F list of entries, Y list of exits, N task number, mode, condition and
-- assignments, T template, S message, B branches with a template each, G branches with a condition each.
abbrev pub kinds : List Kind
kinds =
    -- keyword, parts, entries, exits, what else; the form that document 01 gives it (RULES: elements)
    no_kind ∷
    kind "start" "EX" one one [] ∷  -- start(e,f)
    kind "startRcv" "TX" none one (receives one ∷ []) ∷  -- startRcv(m:T,f)
    kind "end" "E" one none [] ∷  -- end(e)
    kind "terminate" "E" one none [] ∷  -- terminate(e)
    kind "endSnd" "ES" one none (sends one ∷ []) ∷  -- endSnd(e,m:X)
    kind "interRcv" "ETX" one one (receives one ∷ []) ∷  -- interRcv(e,m:T,f)
    kind "interSnd" "ESX" one one (sends one ∷ []) ∷  -- interSnd(e,m:X,f)
    kind "eventBased" "EB" one many (receives many ∷ []) ∷  -- eventBased(e,(m:T,f),..)
    kind "andSplit" "EY" one many [] ∷  -- andSplit(e,E)
    kind "andJoin" "FX" many one [] ∷  -- andJoin(E,f)
    kind "xorJoin" "FX" many one [] ∷  -- xorJoin(E,f)
    kind "xorSplit" "EG" one many (conditions many ∷ []) ∷  -- xorSplit(e,{(f,C),..})
    kind "task" "ENX" one one (task_part ∷ conditions one ∷ []) ∷  -- task(e,n,k,C,A,f)
    kind "taskRcv" "ENTX" one one (task_part ∷ conditions one ∷ receives one ∷ []) ∷  -- taskRcv(e,n,k,C,A,m:T,f)
    kind "taskSnd" "ENSX" one one (task_part ∷ conditions one ∷ sends one ∷ []) ∷ []  -- taskSnd(e,n,k,C,A,m:X,f)

-- The numbers of the kinds, as they stand in a table.
abbrev pub start : ℕ
start = 1

abbrev pub start_rcv : ℕ
start_rcv = 2

abbrev pub end : ℕ
end = 3

abbrev pub terminate : ℕ
terminate = 4

abbrev pub end_snd : ℕ
end_snd = 5

abbrev pub inter_rcv : ℕ
inter_rcv = 6

abbrev pub inter_snd : ℕ
inter_snd = 7

abbrev pub event_based : ℕ
event_based = 8

abbrev pub and_split : ℕ
and_split = 9

abbrev pub and_join : ℕ
and_join = 10

abbrev pub xor_join : ℕ
xor_join = 11

abbrev pub xor_split : ℕ
xor_split = 12

abbrev pub task : ℕ
task = 13

abbrev pub task_rcv : ℕ
task_rcv = 14

abbrev pub task_snd : ℕ
task_snd = 15

-- the row of kind k
unfoldable pub kind_of : ℕ → Kind
kind_of k = get_or kinds k no_kind

-- its keyword
abbrev pub keyword_of : ℕ → Bytes
keyword_of k = take (kind_of k).letters (kind_of k).keyword

-- how many there are of what a cell says: none, one, or the n of a list
unfoldable pub used : ℕ → ℕ → ℕ
used holds n = if eqb holds many then n or_else holds
