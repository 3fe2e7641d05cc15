-- Whether values could match a template that is worked out once, with no values given: w is what it came to, g the values.
use Rattle.std.specs.Prelude.{ℕ, Bool, ◌&&◌, ◌||◌, eqb}
use Rattle.base_words.specs.Blocks.{Element}
use Rattle.base_words.specs.All.{all}
use Rattle.base_words.specs.Words.{at}
use Rattle.meaning.specs.declared.Tuple.{Tuple}
use Rattle.meaning.specs.Templates.{binds}

-- value j is the template's, or it is bound
unfoldable pub item_suits : Element → ℕ → Tuple → Tuple → ℕ → Bool
item_suits el b w g j = eqb (at w.values j) (at g.values j) || binds el b j

unfoldable pub suited : Element → ℕ → Tuple → Tuple → Bool
suited el b w g = eqb w.length g.length && all (item_suits el b w g) w.length
