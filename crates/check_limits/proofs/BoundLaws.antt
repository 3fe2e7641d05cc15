-- The product of two words is a place. Assumes nothing.
use Prim.Native.Nat.{ℕ, ◌*◌, ◌≤◌, ◌<◌}
use native.Mathlib.Nat.{mul-le-mul}
use native.Mathlib.Omega.{arith}
use Rattle.base_words.specs.Words.{greatest}

pub product_fits : (a b : ℕ) → a ≤ greatest → b ≤ greatest → a * b < 18446744073709551616
product_fits a b h k = omega (arith, mul-le-mul h k)
