-- A test below a number that a call's result is known to equal. Assumes nothing.
use mathlib.Core.Path.{◌≡◌}
use mathlib.Core.Bool.{Bool, true, false}
use Prim.Native.Nat.{ℕ, ◌<◌}
use mathlib.Core.List.{List}
use native.Mathlib.Omega.{arith}
use lib.Dec.{ltb}
use borrow.Author.Tests.{lt-ltb}
use Rattle.meaning.specs.Assignments.{Assigned}

pub below_yes : (r a j : ℕ) → r ≡ a → j < r → ltb j a ≡ true
below_yes r a j e h = lt-ltb j a (omega arith)

-- once an assignment is undefined, all of them are
pub undefined_stays : (d : Bool) (h : List ℕ) → d ≡ false → ◌≡◌ {A = Assigned} (record { defined = false; instance = h }) (record { defined = d; instance = h })
undefined_stays d h e = rw e
