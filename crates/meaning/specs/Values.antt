-- "A field is 0 to 4,294,967,295 or undefined." "A sum above 4,294,967,295 or a difference below 0 is undefined, and so is all that uses an undefined
-- operand; such a condition holds neither true nor false." (RULES: values)
use Rattle.std.specs.Prelude.{ℕ, ◌+◌, ◌-◌, Bool, true, false, ltb, leb, eqb, Option, None, Some}
use Rattle.base_words.specs.Pick.{if◌then◌or_else◌}
use Rattle.base_words.specs.Words.{greatest}
use Rattle.meaning.specs.declared.Truth.{Truth}
use Rattle.meaning.specs.declared.Truth.TheVariants.{True, False, Neither}

-- a number, or none where it is undefined
abbrev pub Value : Type 0
Value = Option ℕ

unfoldable pub sum_of : Value → Value → Value
sum_of (Some x) (Some y) = if leb (x + y) greatest then Some (x + y) or_else None
sum_of (Some x) None = None
sum_of None y = None

unfoldable pub difference_of : Value → Value → Value
difference_of (Some x) (Some y) = if leb y x then Some (x - y) or_else None
difference_of (Some x) None = None
difference_of None y = None

unfoldable pub equal_of : Value → Value → Truth
equal_of (Some x) (Some y) = if eqb x y then True or_else False
equal_of (Some x) None = Neither
equal_of None y = Neither

unfoldable pub less_of : Value → Value → Truth
less_of (Some x) (Some y) = if ltb x y then True or_else False
less_of (Some x) None = Neither
less_of None y = Neither

unfoldable pub is_true : Truth → Bool
is_true True = true
is_true False = false
is_true Neither = false

unfoldable pub is_false : Truth → Bool
is_false True = false
is_false False = true
is_false Neither = false

unfoldable pub is_defined : Value → Bool
is_defined (Some x) = true
is_defined None = false

-- the number of a defined value; 0 stands for an undefined one
unfoldable pub number_in : Value → ℕ
number_in (Some x) = x
number_in None = 0
