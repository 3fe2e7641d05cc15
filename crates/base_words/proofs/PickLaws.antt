-- The laws of a choice, of `&&` and of `||`, in the direction of a contract's `r ≡ spec`. Assumes nothing.
use mathlib.Core.Path.{◌≡◌, ◌∙◌, refl, sym}
use mathlib.Core.Bool.{Bool, true, false, not, ◌&&◌, ◌||◌}
use Prim.Native.Nat.{ℕ}
use lib.Dec.{leb, eqb}
use Rattle.base_words.specs.Pick.{if◌then◌or_else◌}

pub pick_yes : {A : Type 0} (b : Bool) (w x y : A) → b ≡ true → w ≡ x → w ≡ (if b then x or_else y)
unfolding if◌then◌or_else◌
pick_yes b w x y e h = rw e h

pub pick_no : {A : Type 0} (b : Bool) (w x y : A) → b ≡ false → w ≡ y → w ≡ (if b then x or_else y)
unfolding if◌then◌or_else◌
pick_no b w x y e h = rw e h

pub and_yes : (a b w : Bool) → a ≡ true → w ≡ b → w ≡ a && b
and_yes a b w e h = rw e h

pub and_no : (a b : Bool) → a ≡ false → false ≡ a && b
and_no a b e = rw e

pub or_yes : (a b : Bool) → a ≡ true → true ≡ a || b
or_yes a b e = rw e

pub or_no : (a b w : Bool) → a ≡ false → w ≡ b → w ≡ a || b
or_no a b w e h = rw e h

-- a Bool b that a call's result r is known to equal, from the test on r, or on `!r`
pub flag_is : (r b t : Bool) → r ≡ b → r ≡ t → b ≡ t
flag_is r b t e h = sym e ∙ h

pub flag_yes : (r b : Bool) → r ≡ b → not r ≡ false → b ≡ true
flag_yes true b e h = sym e
flag_yes false b e h = sym e ∙ sym h

pub flag_no : (r b : Bool) → r ≡ b → not r ≡ true → b ≡ false
flag_no false b e h = sym e
flag_no true b e h = sym e ∙ sym h

pub and_true : (a b : Bool) → a ≡ true → b ≡ true → a && b ≡ true
and_true a b e h = rw (e, h)

pub and_false_left : (a b : Bool) → a ≡ false → a && b ≡ false
and_false_left a b e = rw e

pub and_false_right : (a b : Bool) → b ≡ false → a && b ≡ false
and_false_right true b e = e
and_false_right false b e = refl

-- a test that is returned
pub leb_same : (r a n : ℕ) → r ≡ a → leb r n ≡ leb a n
leb_same r a n e = rw e

pub eqb_same : (r a n : ℕ) → r ≡ a → eqb r n ≡ eqb a n
eqb_same r a n e = rw e

pub ruleset flags = (flag_yes, flag_no)

pub ruleset ands = (and_yes, and_no, and_true, and_false_left, and_false_right)

pub ruleset chains = (pick_yes, pick_no, and_yes, and_no, and_true, and_false_left, and_false_right, flag_yes, flag_no, leb_same, eqb_same)

-- for `grind`: a choice whose test is known
pub pick_true : {A : Type 0} (x y : A) → (if true then x or_else y) ≡ x
unfolding if◌then◌or_else◌
pick_true x y = refl

pub pick_false : {A : Type 0} (x y : A) → (if false then x or_else y) ≡ y
unfolding if◌then◌or_else◌
pick_false x y = refl

pub ruleset picks = (pick_true, pick_false)
