-- FIGURES FOR THE ROUTE DESK. "For each pool in text order, one record with instances made, unfinished (a token or a task count left) and finished":
-- t is a table, s the instances of a state, h the words from an instance on, a record three words. (RULES: figures)
use Rattle.std.specs.Prelude.{ℕ, ◌-◌, Bool, not, ◌&&◌, List, [], ◌∷◌, eqb, length, get_or, set}
use Rattle.base_words.specs.Blocks.{Records, Block, Table, Instances, Instance}
use Rattle.base_words.specs.All.{all}
use Rattle.base_words.specs.Each.{tab}
use Rattle.base_words.specs.Pick.{if◌then◌or_else◌}
use Rattle.base_words.specs.Sum.{sum, one_if}
use Rattle.base_words.specs.Words.{at}
use Rattle.base_table.specs.Table.{pool_count}
use Rattle.base_state.specs.Places.{defined_place}
use Rattle.base_state.specs.Instances.{made_count, instance_at}
use Rattle.check_limits.specs.Limits.{zeros}

-- no token and no task count is left
unfoldable pub is_finished : Instance → Bool
is_finished h = zeros h (defined_place 0)

-- THE COUNT over the made instances of pool p
unfoldable pub unfinished : Instances → ℕ → ℕ
unfinished s p = sum (λ i. one_if (not (is_finished (instance_at s p i)))) (made_count s p)

unfoldable pub finished : Instances → ℕ → ℕ
finished s p = sum (λ i. one_if (is_finished (instance_at s p i))) (made_count s p)

unfoldable pub record_of : Instances → ℕ → List ℕ
record_of s p = made_count s p ∷ unfinished s p ∷ finished s p ∷ []

-- "what a count over the state gives" (RULES: figures)
unfoldable pub counted : Table → Instances → Records
counted t s = tab (record_of s) (pool_count t)

-- "26 the number of records isn't the number of pools, or they don't agree with the state" (RULES: figures)
abbrev pub record_at : Records → ℕ → List ℕ
record_at rs p = get_or rs p []

unfoldable pub same_record : List ℕ → Block → Bool
same_record r w = eqb (at r 0) (at w 0) && eqb (at r 1) (at w 1) && eqb (at r 2) (at w 2)

unfoldable pub agree : Records → Table → Instances → Bool
agree rs t s = eqb (length rs) (pool_count t) && all (λ p. same_record (record_at rs p) (record_of s p)) (pool_count t)

-- THE RECORD r of a pool after a step, from how many instances are made now and whether the step left its own with nothing
unfoldable pub record_after : List ℕ → ℕ → Bool → List ℕ
record_after r made done =
    if done then made ∷ (at r 1 - 1) ∷ (made - (at r 1 - 1)) ∷ []
    or_else made ∷ (made - at r 2) ∷ at r 2 ∷ []

-- the records after a step of instance i of pool p, s the instances then: one is looked at and one is written
unfoldable pub updated : Records → Instances → ℕ → ℕ → Records
updated rs s p i = set rs p (record_after (record_at rs p) (made_count s p) (is_finished (instance_at s p i)))

-- and only where the step was accepted
unfoldable pub followed : ℕ → Records → Instances → ℕ → ℕ → Records
followed number rs s p i = if eqb number 0 then updated rs s p i or_else rs

-- THE NUMBER of a call that is lent records: 26 "after 10", k being what table and state are refused with, or 0
unfoldable pub desk_number : ℕ → Records → Table → Instances → ℕ
desk_number k rs t s = if eqb k 0 then (if agree rs t s then 0 or_else 26) or_else k

-- THE RECORDS that a call leaves, k being what it refuses its blocks with: those of the state that it leaves
unfoldable pub records_left : ℕ → Records → Table → Instances → Records
records_left k rs t s = if eqb k 0 then counted t s or_else rs

-- THE CALL that sets them by counting
pub record Figured : Type 0 where
  pub number : ℕ
  pub records : Records

unfoldable pub figured : ℕ → Records → Table → Instances → Figured
figured k rs t s =
    if eqb k 0 then
    if eqb (length rs) (pool_count t) then record { number = 0; records = counted t s } or_else record { number = 26; records = rs }
    or_else record { number = k; records = rs }
