-- WHERE A POOL THAT IS NOT NESTED OFFENDS, for words to people: at the element where the walk from its start stops, if that is no end: a terminate, a join that closes no split, a split whose branches do not
-- run into a join of its own. If it is an end: at the first element in text order that is not met, or met more than once. P k is the words of element k of a pool, c how many it has.
use Rattle.std.specs.Prelude.{ℕ, not, List, ◌∷◌, eqb, ltb, replicate}
use Rattle.base_words.specs.Blocks.{Element}
use Rattle.base_words.specs.Pick.{if◌then◌or_else◌}
use Rattle.base_words.specs.Seek.{seek}
use Rattle.base_words.specs.Words.{at}
use Rattle.base_words.specs.Counts.{elements}
use Rattle.base_kinds.specs.Kinds.{end}
use Rattle.base_table.specs.Table.{kind_in}
use Rattle.check_tally.specs.Tally.{tally}
use Rattle.check_nesting.specs.Deciding.{first_of, whole_walk, last_of}

-- the first element that is not met once on the way from the element `first` to the element `last`; c where each is
unfoldable pub stray_of : (ℕ → Element) → ℕ → ℕ → ℕ → ℕ
stray_of P c first last = seek (λ k. not (eqb (at (tally (replicate elements 0) (first ∷ last ∷ (whole_walk P c first).on)) k) 1)) c

unfoldable pub offending_by : (ℕ → Element) → ℕ → ℕ → ℕ → ℕ
offending_by P c first last = if eqb (kind_in (P last)) end then stray_of P c first last or_else last

-- 0 in a pool without a start, c in a nested one
unfoldable pub offending : (ℕ → Element) → ℕ → ℕ
offending P c = if ltb (first_of P c) c then offending_by P c (first_of P c) (last_of P c (first_of P c)) or_else 0
