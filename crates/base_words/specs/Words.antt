-- Words of a block: a read outside it is 0, a write outside it is none (as `set` has it).
use Rattle.std.specs.Prelude.{◌++◌, ℕ, ◌+◌, ◌-◌, ltb, get_or, take, drop}
use Rattle.base_words.specs.Blocks.{Block}
use Rattle.base_words.specs.Pick.{if◌then◌or_else◌}

-- the greatest value of a word
abbrev pub greatest : ℕ
greatest = 4294967295

-- and its digits
abbrev pub digits : ℕ
digits = 10

-- the word at place i
abbrev pub at : Block → ℕ → ℕ
at s i = get_or s i 0

-- a part of a block, and the block with that part changed to p, as a part is lent and given back
abbrev pub part : Block → ℕ → ℕ → Block
part s from to = take (to - from) (drop from s)

abbrev pub patch : Block → ℕ → ℕ → Block → Block
patch s from to p = take from s ++ (p ++ drop (to - from) (drop from s))

-- one more, as far as a word goes
unfoldable pub one_more : ℕ → ℕ
one_more n = if ltb n greatest then n + 1 or_else n
