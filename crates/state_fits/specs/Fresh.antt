-- "Fresh state: empty queues; a pool with `start` has instance 0, with one token on start's first edge; a pool with `startRcv` has none." "A fresh state is
-- made for version 10 or 20 and keeps it." (RULES: fresh)
use Rattle.std.specs.Prelude.{ℕ, ◌+◌, set, replicate}
use Rattle.base_words.specs.Blocks.{Table, State}
use Rattle.base_words.specs.Iter.{iter}
use Rattle.base_words.specs.Pick.{if◌then◌or_else◌}
use Rattle.base_table.specs.Table.{pool_count, element_at, entry_at}
use Rattle.base_state.specs.Places.{token_place, made_place, instance_place, version_at, state_words}
use Rattle.state_fits.specs.Fits.{start_place, has_start}

-- the first edge of the pool's start
unfoldable pub start_edge : Table → ℕ → ℕ
start_edge t p = entry_at (element_at t p (start_place t p)) 0

-- pool p of a state z that holds 0 for it
unfoldable pub pool_begun : Table → ℕ → State → State
pool_begun t p z = if has_start t p then set (set z (made_place p) 1) (instance_place p 0 + token_place (start_edge t p)) 1 or_else z

-- the fresh state for version v
unfoldable pub fresh : Table → ℕ → State
fresh t v = set (iter (pool_begun t) (replicate state_words 0) (pool_count t)) version_at v
