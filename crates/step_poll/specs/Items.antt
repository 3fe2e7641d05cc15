-- THE ITEMS OF A POLL out of lent words w: each has 11, "1 for a post, anything else a step; pool or name; instance; element; phase; branch; length; 4
-- values". What a post does not use is ignored. (RULES: poll)
use Rattle.std.specs.Prelude.{ℕ, zero, suc, List, [], ◌∷◌, eqb, drop}
use Rattle.base_words.specs.Blocks.{Block}
use Rattle.base_words.specs.Pick.{if◌then◌or_else◌}
use Rattle.base_words.specs.Words.{at}
use Rattle.meaning.specs.declared.Name.{Name}
use Rattle.meaning.specs.declared.Tuple.{Tuple}

-- "named steps and posts" (RULES: poll)
pub data Act : Type 0 where
  a_step : Name → Act
  a_post : ℕ → Tuple → Act

abbrev pub item_words : ℕ
item_words = 11

-- "up to 64 of them in one call" (RULES: poll)
abbrev pub items_most : ℕ
items_most = 64

abbrev pub given_in : Block → Tuple
given_in w = record { length = at w 6; values = at w 7 ∷ at w 8 ∷ at w 9 ∷ at w 10 ∷ [] }

abbrev pub name_in : Block → Name
name_in w = record { pool = at w 1; instance = at w 2; element = at w 3; phase = at w 4; branch = at w 5; given = given_in w }

unfoldable pub act_in : Block → Act
act_in w = if eqb (at w 0) 1 then a_post (at w 1) (given_in w) or_else a_step (name_in w)

-- the first n items; what stands behind them is ignored
unfoldable pub acts_in : Block → ℕ → List Act
acts_in w zero = []
acts_in w (suc n) = act_in w ∷ acts_in (drop item_words w) n
