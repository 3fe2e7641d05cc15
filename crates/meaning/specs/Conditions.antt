-- "C is `true`, or two operands joined by `=` or `<`; in xorSplit also `default`." w is the words of a condition, el an element's, h an instance's. (RULES: conditions)
use Rattle.std.specs.Prelude.{ℕ, Bool, true, ◌&&◌, List, eqb}
use Rattle.base_words.specs.Blocks.{Block, Element, Instance}
use Rattle.base_words.specs.All.{all}
use Rattle.base_words.specs.Pick.{if◌then◌or_else◌}
use Rattle.base_words.specs.Words.{at}
use Rattle.meaning.specs.declared.Truth.{Truth}
use Rattle.meaning.specs.declared.Truth.TheVariants.{True, Neither}
use Rattle.meaning.specs.Values.{equal_of, less_of, is_true, is_false}
use Rattle.base_table.specs.Places.{form_place, left_place, right_place, always, default, equals, below}
use Rattle.base_table.specs.Table.{condition_at, exit_count}
use Rattle.meaning.specs.Expressions.{operand_of}

-- `default` by itself holds neither true nor false
unfoldable pub condition_of : Block → Instance → Truth
condition_of w h =
    if eqb (at w form_place) always then True
    or_else if eqb (at w form_place) equals then equal_of (operand_of w h left_place) (operand_of w h right_place)
    or_else if eqb (at w form_place) below then less_of (operand_of w h left_place) (operand_of w h right_place)
    or_else Neither

-- "A branch is permitted when its condition is true and all earlier ones other than default are false. An undefined earlier one blocks it. Default is as before":
-- "default when all others are false." A guard is the condition of branch 0, which has no earlier ones. (RULES: branches)
unfoldable pub default_at : Element → ℕ → Bool
default_at el b = eqb (at (condition_at el b) form_place) default

-- what b does not look at: the default, or itself where it is the default
unfoldable pub left_out : Element → ℕ → ℕ → Bool
left_out el b j = if default_at el b then eqb j b or_else default_at el j

unfoldable pub other_false : Element → Instance → ℕ → ℕ → Bool
other_false el h b j = if left_out el b j then true or_else is_false (condition_of (condition_at el j) h)

unfoldable pub holds : Element → Instance → ℕ → Bool
holds el h b =
    if default_at el b then all (other_false el h b) (exit_count el)
    or_else is_true (condition_of (condition_at el b) h) && all (other_false el h b) b
