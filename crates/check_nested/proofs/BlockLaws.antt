-- A mark at a number's own place. Assumes nothing.
use Prim.Native.Nat.{ℕ, ◌+◌, ◌≤◌}
use mathlib.Core.Path.{◌≡◌, ◌∙◌, ap}
use mathlib.Core.Bool.{Bool, true, false, false≢true}
use mathlib.Core.List.{List}
use native.Mathlib.Omega.{arith}
use lib.Dec.{leb}
use borrow.Author.Tests.{le-leb}
use Rattle.base_words.specs.Pick.{if◌then◌or_else◌}
use Rattle.base_words.specs.Words.{greatest}
use Rattle.check_tally.specs.Tally.{marked, place}

-- a number that is a word is marked at its own place
pub marked_one : (s u : List ℕ) (v : ℕ) → v ≤ greatest → u ≡ marked s (place 0 greatest v) → u ≡ marked s v
unfolding place if◌then◌or_else◌
marked_one s u v l e = e ∙ ap (marked s) (at_own (leb v greatest) (le-leb v greatest l))
  where
    at_own : (b : Bool) → b ≡ true → (if b then 0 + v or_else 0) ≡ v
    at_own true h = omega arith
    at_own false h = absurd (false≢true h)
