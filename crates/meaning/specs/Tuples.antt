-- "A message is a tuple of 0 to 4 defined values. What a call gives behind its values is ignored." (RULES: messages)
use Rattle.std.specs.Prelude.{ℕ, Bool, ◌&&◌, List, ltb, eqb, replicate}
use Rattle.base_words.specs.Pick.{if◌then◌or_else◌}
use Rattle.base_words.specs.All.{all}
use Rattle.base_words.specs.Words.{at}
use Rattle.base_words.specs.Counts.{values}
use Rattle.meaning.specs.declared.Tuple.{Tuple}

-- the empty tuple
abbrev pub empty : Tuple
empty = record { length = 0; values = replicate values 0 }

-- value j of a tuple; behind its values 0, whatever stands there
unfoldable pub value_of : Tuple → ℕ → ℕ
value_of g j = if ltb j g.length then at g.values j or_else 0

-- equal length, and equal values within it
unfoldable pub same_tuple : Tuple → Tuple → Bool
same_tuple x g = eqb x.length g.length && all (λ j. eqb (at x.values j) (at g.values j)) x.length
