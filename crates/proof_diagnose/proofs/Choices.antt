-- What holds of both of two things holds of the one that is chosen. Assumes nothing.
use mathlib.Core.Bool.{Bool, true, false}
use Rattle.base_words.specs.Pick.{if◌then◌or_else◌}

pub choice : {A : Type 0} (P : A → Type 0) (b : Bool) (x y : A) → P x → P y → P (if b then x or_else y)
unfolding if◌then◌or_else◌
choice P true x y p q = p
choice P false x y p q = q
