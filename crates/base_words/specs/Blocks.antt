-- What a list of numbers is, so that a signature can be read alone. Each is `List ℕ`, and no more is said by the name than what its reader may take it for.
use Rattle.std.specs.Prelude.{ℕ, List}

-- the words of a block that is lent, or of a part of one: a condition, an item, an assignment, what stands from a place on
abbrev pub Block : Type 0
Block = List ℕ

-- the bytes of a text, a drawing, a log, a line, a word, a buffer
abbrev pub Bytes : Type 0
Bytes = List ℕ

-- the words of a table, and those from an element on
abbrev pub Table : Type 0
Table = List ℕ

abbrev pub Element : Type 0
Element = List ℕ

-- the words of a state; its instances with what they share, and its queues
abbrev pub State : Type 0
State = List ℕ

abbrev pub Instances : Type 0
Instances = List ℕ

abbrev pub Queues : Type 0
Queues = List ℕ

-- the words of one instance, alone or, as a step sees it, with those that all share behind them
abbrev pub Instance : Type 0
Instance = List ℕ

-- counts by place: how often a number stands in a pool, or in a model
abbrev pub Tally : Type 0
Tally = List ℕ

-- the desk's records, one for each pool
abbrev pub Records : Type 0
Records = List (List ℕ)

-- the things noted of a drawing
abbrev pub Drawing : Type 0
Drawing = List ℕ
