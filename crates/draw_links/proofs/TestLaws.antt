-- A test that a call answers and that `&&` breaks off at. Assumes nothing.
use mathlib.Core.Path.{◌≡◌, sym, ◌∙◌}
use mathlib.Core.Bool.{Bool, false, ◌&&◌}
use Rattle.base_words.proofs.PickLaws.{and_no}

pub and_told : (r a b : Bool) → r ≡ a → r ≡ false → r ≡ a && b
and_told r a b e h = h ∙ and_no a b (sym e ∙ h)
