-- Choices by a test, and `||`. Assumes nothing.
use mathlib.Core.Path.{◌≡◌, refl}
use mathlib.Core.Bool.{Bool, true, false, ◌||◌}

abbrev pub choose : {A : Type 0} → Bool → A → A → A
choose true x y = x
choose false x y = y

pub by_test : {A : Type 0} (c : Bool) → (c ≡ true → A) → (c ≡ false → A) → A
by_test {A} c f g = go c refl
  where
    go : (d : Bool) → c ≡ d → A
    go true e = f e
    go false e = g e

pub either : {A : Type 0} (c d : Bool) → c || d ≡ true → (c ≡ true → A) → (d ≡ true → A) → A
either true d e f g = f refl
either false d e f g = g e
