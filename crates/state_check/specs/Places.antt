-- What the code asks of one place: u says with 1 which places of an instance h may be used; message k of queue m has n values.
use Rattle.std.specs.Prelude.{ℕ, Bool, List, eqb, leb, ltb}
use Rattle.base_words.specs.Blocks.{Queues, Instance}
use Rattle.base_words.specs.Counts.{count_most}
use Rattle.base_words.specs.Pick.{if◌then◌or_else◌}
use Rattle.base_words.specs.Words.{at}
use Rattle.meaning.specs.Queues.{value_at}

-- 0 where a count n may stand
unfoldable pub excess_of : ℕ → ℕ → ℕ
excess_of u n = if eqb u 1 then (if leb n count_most then 0 or_else 1) or_else n

abbrev pub excess_at : List ℕ → Instance → ℕ → ℕ
excess_at u h k = excess_of (at u k) (at h k)

-- value j is 0 where it stands behind the first n
unfoldable pub shown_by : Queues → ℕ → ℕ → ℕ → ℕ → Bool
shown_by q m k n j = eqb (value_at q m k j) (if ltb j n then value_at q m k j or_else 0)
