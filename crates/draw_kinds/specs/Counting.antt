-- COUNTING THINGS. w is the things drawn, n a count of them.
use Rattle.std.specs.Prelude.{ℕ, ◌+◌, ◌*◌, Bool, ◌&&◌, eqb}
use Rattle.base_words.specs.Blocks.{Drawing}
use Rattle.base_words.specs.Seek.{seek}
use Rattle.base_words.specs.Sum.{sum, one_if}
use Rattle.base_words.specs.Words.{at}
use Rattle.draw_things.specs.Things.{thing_words, sort}

-- the columns of a thing
abbrev pub within_in : ℕ
within_in = 2

abbrev pub source_in : ℕ
source_in = 3

abbrev pub target_in : ℕ
target_in = 4

abbrev pub column : ℕ → Drawing → ℕ → ℕ
column c w j = at w (thing_words * j + c)

-- thing j is of sort s and has v in its column c
unfoldable pub is_with : ℕ → ℕ → ℕ → Drawing → ℕ → Bool
is_with s c v w j = eqb (sort w j) s && eqb (column c w j) v

-- how many of the first n are, and the first that is (n where none is)
unfoldable pub count_with : ℕ → ℕ → ℕ → Drawing → ℕ → ℕ
count_with s c v w n = sum (λ j. one_if (is_with s c v w j)) n

unfoldable pub first_with : ℕ → ℕ → ℕ → Drawing → ℕ → ℕ
first_with s c v w n = seek (is_with s c v w) n

unfoldable pub of_sort : ℕ → Drawing → ℕ → Bool
of_sort s w j = eqb (sort w j) s

unfoldable pub count_sort : ℕ → Drawing → ℕ → ℕ
count_sort s w n = sum (λ j. one_if (of_sort s w j)) n
