-- A choice, by its test. Assumes nothing.
use mathlib.Core.Path.{◌≡◌, refl, sym, ◌∙◌}
use mathlib.Core.Bool.{Bool, true, false}
use Rattle.base_words.specs.Pick.{if◌then◌or_else◌}

pub by_test : {C : Type 0} (b : Bool) → (b ≡ true → C) → (b ≡ false → C) → C
by_test true f g = f refl
by_test false f g = g refl

-- what holds of both ways holds of the choice
pub by_choice : {A : Type 0} (P : A → Type 0) (b : Bool) (x y : A) → (b ≡ true → P x) → (b ≡ false → P y) → P (if b then x or_else y)
unfolding if◌then◌or_else◌
by_choice P true x y f g = f refl
by_choice P false x y f g = g refl

module _ {A : Type 0} (b : Bool) (x y : A) where
  pub chosen : b ≡ true → (if b then x or_else y) ≡ x
  unfolding if◌then◌or_else◌
  chosen e = rw e

  pub passed : b ≡ false → (if b then x or_else y) ≡ y
  unfolding if◌then◌or_else◌
  passed e = rw e

-- of a choice that is true
pub chosen_true : (b x y : Bool) → (if b then x or_else y) ≡ true → b ≡ true → x ≡ true
chosen_true b x y h e = sym (chosen b x y e) ∙ h

pub passed_true : (b x y : Bool) → (if b then x or_else y) ≡ true → b ≡ false → y ≡ true
passed_true b x y h e = sym (passed b x y e) ∙ h
