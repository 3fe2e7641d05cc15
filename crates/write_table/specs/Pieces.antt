-- Pieces of the texts in Shown, each written by a function of its own.
use Prim.Native.Char.{code}
use Rattle.std.specs.Prelude.{ℕ, [], ◌∷◌, ◌++◌, eqb, ltb}
use Rattle.base_words.specs.Blocks.{Bytes, Table, Element}
use Rattle.base_words.specs.Pick.{if◌then◌or_else◌}
use Rattle.base_words.specs.Text.{bytes}
use Rattle.base_words.specs.Words.{at}
use Rattle.base_kinds.specs.Kinds.{kind_of}
use Rattle.base_table.specs.Places.{pool_place, limit_place}
use Rattle.base_table.specs.Table.{kind_in, pool_count}
use Rattle.write_decimals.specs.Decimals.{shown}
use Rattle.write_shown.specs.Shown.{lead, enclosed_by, shown_part, shown_parts, shown_elements, shown_limit, shown_pool}

-- a part behind its sign; the parts of an element, with the sign that opens them
abbrev pub signed : ℕ → ℕ → Element → Bytes
signed s c el = s ∷ shown_part c el

abbrev pub parts : Element → Bytes
parts el = shown_parts (code "(") (kind_of (kind_in el)).parts el

-- a pool's `P` or `P,n`; its number before it; the signs around it; its keyword
abbrev pub contents : Table → ℕ → Bytes
contents t p = shown_elements t p ++ shown_limit (at t (limit_place p))

abbrev pub numbered : Table → ℕ → Bytes
numbered t p = shown (at t (pool_place p)) ++ (code "," ∷ contents t p)

abbrev pub pool_enclosed : Table → ℕ → Bytes
pool_enclosed t p = enclosed_by (code "(") (code ")") (numbered t p)

unfoldable pub pool_word : ℕ → Bytes
pool_word n = if eqb n 0 then bytes "pool" or_else bytes "miPool"

-- the pool at a place, behind its bar; nothing where there is none
unfoldable pub next_pool : Table → ℕ → Bytes
next_pool t p = if ltb p (pool_count t) then lead (code "|") p ++ shown_pool t p or_else []
