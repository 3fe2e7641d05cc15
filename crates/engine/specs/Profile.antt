-- THE NESTED PROFILE of a lent table: "Say whether a checked model is of this kind, .. and show the first offending pool otherwise. Refusals: 29 not nested, with the pool's number, after 10." (RULES: calls)
use Rattle.std.specs.Prelude.{ℕ, List, ltb}
use Rattle.base_words.specs.Blocks.{Table}
use Rattle.base_words.specs.Pick.{if◌then◌or_else◌}
use Rattle.base_words.specs.Words.{at}
use Rattle.base_table.specs.Places.{pool_place}
use Rattle.base_table.specs.Table.{pool_count}
use Rattle.check_nesting.specs.Deciding.{unnested}
use Rattle.engine.specs.declared.Verdict.{Verdict}
use Rattle.engine.specs.Engine.{valid}

unfoldable pub nested_of : Table → Verdict
nested_of t =
    if valid t then
    if ltb (unnested t) (pool_count t) then record { number = 29; beside = at t (pool_place (unnested t)) } or_else record { number = 0; beside = 0 }
    or_else record { number = 10; beside = 0 }
