-- The model that a table holds.
use Rattle.std.specs.Prelude.{List, ℕ}
use Rattle.base_words.specs.Blocks.{Table}
use Rattle.base_words.specs.Each.{tab}
use Rattle.base_words.specs.Words.{at}
use Rattle.base_table.specs.Places.{pool_place, limit_place}
use Rattle.base_table.specs.Table.{pool_count, element_count, element_at}
use Rattle.check_model.specs.Checks.{Pool}

unfoldable pub pool_at : Table → ℕ → Pool
pool_at t p = record { number = at t (pool_place p); limit = at t (limit_place p); elements = tab (element_at t p) (element_count t p) }

unfoldable pub model_of : Table → List Pool
model_of t = tab (pool_at t) (pool_count t)
