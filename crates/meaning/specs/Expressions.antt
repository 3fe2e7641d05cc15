-- "An operand is a number or a field. An expression is an operand, or two joined by `+` or `-`." w is the words of an expression, h an instance's.
use Rattle.std.specs.Prelude.{ℕ, ◌+◌, List, eqb, None, Some}
use Rattle.base_words.specs.Blocks.{Block, Instance}
use Rattle.base_words.specs.Pick.{if◌then◌or_else◌}
use Rattle.base_words.specs.Words.{at}
use Rattle.meaning.specs.Values.{Value, sum_of, difference_of}
use Rattle.base_table.specs.Places.{operand_number, form_place, left_place, right_place, plus, minus}
use Rattle.base_state.specs.Places.{defined_place, value_place}

-- field d of an instance
unfoldable pub field_of : Instance → ℕ → Value
field_of h d = if eqb (at h (defined_place d)) 0 then None or_else Some (at h (value_place d))

unfoldable pub operand_of : Block → Instance → ℕ → Value
operand_of w h place = if eqb (at w place) 0 then Some (at w (place + operand_number)) or_else field_of h (at w (place + operand_number))

unfoldable pub expression_of : Block → Instance → Value
expression_of w h =
    if eqb (at w form_place) plus then sum_of (operand_of w h left_place) (operand_of w h right_place)
    or_else if eqb (at w form_place) minus then difference_of (operand_of w h left_place) (operand_of w h right_place)
    or_else operand_of w h left_place
