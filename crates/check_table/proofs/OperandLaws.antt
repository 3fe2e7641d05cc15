-- Operands at a place, and those that are not in use: their words put together by OR. Assumes nothing.
use mathlib.Core.Path.{◌≡◌, ◌∙◌, refl, ap}
use mathlib.Core.Bool.{Bool, true, false, ◌&&◌}
use mathlib.Core.List.{List}
use Prim.Native.Nat.{ℕ, ◌+◌}
use native.Mathlib.Nat.{add-zero}
use lib.Bits.{bit_or}
use lib.Dec.{eqb}
use lib.ListN.{drop}
use lib.Seq.{get_or-drop}
use Rattle.base_words.specs.All.{all}
use Rattle.base_words.specs.Words.{at}
use Rattle.base_table.specs.Places.{left_place, right_place, operand_words}
use Rattle.check_limits.specs.Limits.{zeros}
use Rattle.check_limits.proofs.BitLaws.{or_zero}

and_assoc : (a b c : Bool) → a && b && c ≡ a && (b && c)
and_assoc true b c = refl
and_assoc false b c = refl

-- the words from a place on
pub first_from : (x : List ℕ) (i : ℕ) → at (drop i x) 0 ≡ at x i
first_from x i = get_or-drop i x 0 0 ∙ ap (at x) (add-zero i)

pub next_from : (x : List ℕ) (i : ℕ) → at (drop i x) 1 ≡ at x (i + 1)
next_from x i = get_or-drop i x 1 0

module _ (x : List ℕ) where
  pub right_zeros : zeros (drop right_place x) operand_words ≡ eqb (bit_or (at x 3) (at x 4)) 0
  unfolding zeros all
  right_zeros = rw (or_zero (at x 3) (at x 4), get_or-drop 3 x 0 0, get_or-drop 3 x 1 0)

  -- the left one, and then the right one
  pub both_zeros : zeros (drop left_place x) (operand_words + operand_words) ≡ eqb (bit_or (at x 1) (at x 2)) 0 && zeros (drop right_place x) operand_words
  unfolding zeros all
  both_zeros =
      rw (or_zero (at x 1) (at x 2), get_or-drop 3 x 0 0, get_or-drop 3 x 1 0, get_or-drop 1 x 0 0, get_or-drop 1 x 1 0, get_or-drop 1 x 2 0, get_or-drop 1 x 3 0)
      (and_assoc (eqb (at x 1) 0 && eqb (at x 2) 0) (eqb (at x 3) 0) (eqb (at x 4) 0))
