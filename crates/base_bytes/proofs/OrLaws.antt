-- `||` in the direction of a contract. Assumes nothing.
use mathlib.Core.Path.{◌≡◌, ◌∙◌, refl, sym}
use mathlib.Core.Bool.{Bool, true, false, ◌||◌}

pub or_yes : (a b : Bool) → a ≡ true → true ≡ a || b
or_yes a b e = rw e

pub or_no : (a b r : Bool) → a ≡ false → r ≡ b → r ≡ a || b
or_no a b r e h = rw e h

pub or_this : (a b : Bool) → a ≡ true → a ≡ a || b
or_this a b e = rw e

pub or_told : (r a b : Bool) → r ≡ a → r ≡ true → r ≡ a || b
or_told r a b e h = e ∙ or_this a b (sym e ∙ h)

pub or_last : (a : Bool) → a ≡ a || false
or_last true = refl
or_last false = refl

-- and where the second of three is asked first
pub or_second : (a b c : Bool) → b ≡ true → true ≡ a || (b || c)
or_second true b c e = refl
or_second false b c e = rw e

pub or_third : (a b c r : Bool) → b ≡ false → a ≡ false → r ≡ c → r ≡ a || (b || c)
or_third a b c r e h k = rw (h, e) k

pub ruleset ors = (or_yes, or_no, or_this, or_told, or_last)
