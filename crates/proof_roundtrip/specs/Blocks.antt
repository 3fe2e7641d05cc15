-- The model that a table holds, each element cut to its own words: what reading the table's text gives.
use Rattle.std.specs.Prelude.{ℕ, List, take}
use Rattle.base_words.specs.Each.{tab}
use Rattle.base_words.specs.Words.{at}
use Rattle.base_table.specs.Places.{pool_place, limit_place, element_words}
use Rattle.base_table.specs.Table.{pool_count, element_count, element_at}
use Rattle.check_model.specs.Checks.{Pool}

abbrev pub words_at : List ℕ → ℕ → ℕ → List ℕ
words_at t p e = take element_words (element_at t p e)

unfoldable pub block_at : List ℕ → ℕ → Pool
block_at t p = record { number = at t (pool_place p); limit = at t (limit_place p); elements = tab (words_at t p) (element_count t p) }

unfoldable pub blocks_of : List ℕ → List Pool
blocks_of t = tab (block_at t) (pool_count t)
