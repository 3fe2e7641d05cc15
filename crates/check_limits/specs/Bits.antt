-- The bits that the first n of some numbers have between them.
use Rattle.std.specs.Prelude.{ℕ, zero, suc}
use Rattle.std.specs.Int.Bits.{bit_or}

unfoldable pub bits_of : (ℕ → ℕ) → ℕ → ℕ
bits_of f zero = 0
bits_of f (suc n) = bit_or (bits_of f n) (f n)
