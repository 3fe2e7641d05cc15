-- What the tests on a byte come to. Assumes nothing.
use mathlib.Core.Path.{◌≡◌, sym}
use mathlib.Core.Bool.{Bool, not}
use Prim.Native.Nat.{ℕ, ◌<◌, ◌≤◌}
use lib.Dec.{ltb}
use borrow.Author.Tests.{lt-ltb, le-ltb}
use Rattle.xml_characters.specs.Names.{is_blank, is_control}

module _ (b : ℕ) where
  pub control_low : (r : Bool) → b < 32 → r ≡ is_blank b → not r ≡ is_control b
  unfolding is_control
  control_low r h e = sym (rw (lt-ltb b 32 h, e))

  pub control_high : 32 ≤ b → ltb b 32 ≡ is_control b
  unfolding is_control
  control_high h = rw (le-ltb b 32 h)
