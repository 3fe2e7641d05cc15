-- BYTES, as the notation, drawings and logs have them: which stand in a list, between two, are digits or letters; where a run of them ends; whether two runs are the same.
use Prim.Native.Char.{code}
use Rattle.std.specs.Prelude.{ℕ, ◌+◌, Bool, true, false, ◌||◌, ◌&&◌, List, [], ◌∷◌, leb, eqb}
use Rattle.base_words.specs.Pick.{if◌then◌or_else◌}

-- a byte stands in a list of bytes; it lies between two
unfoldable pub among : List ℕ → ℕ → Bool
among [] b = false
among (x ∷ xs) b = eqb b x || among xs b

unfoldable pub between : ℕ → ℕ → ℕ → Bool
between low high b = leb low b && leb b high

unfoldable pub is_digit : ℕ → Bool
is_digit b = between (code "0") (code "9") b

unfoldable pub is_letter : ℕ → Bool
is_letter b = between (code "a") (code "z") b || between (code "A") (code "Z") b

-- the place of the first byte that is not of a class, or of the end; the bytes s start at the place p
unfoldable pub past : (ℕ → Bool) → List ℕ → ℕ → ℕ
past class [] p = p
past class (b ∷ s) p = if class b then past class s (p + 1) or_else p

-- two runs of bytes are the same, byte by byte
unfoldable pub same_bytes : List ℕ → List ℕ → Bool
same_bytes [] [] = true
same_bytes [] (y ∷ b) = false
same_bytes (x ∷ a) [] = false
same_bytes (x ∷ a) (y ∷ b) = eqb x y && same_bytes a b
