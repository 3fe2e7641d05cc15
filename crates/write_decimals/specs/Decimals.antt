-- "Numbers are decimal without leading zeros, 0 to 4,294,967,295." (RULES: writing)
use Rattle.std.specs.Prelude.{ℕ, zero, suc, ◌+◌, ◌*◌, ◌-◌, ◌/◌, ◌%◌, List, [], ◌∷◌, ◌++◌, Bool, ◌&&◌, ltb, leb}
use Rattle.base_words.specs.Blocks.{Bytes}
use Rattle.base_words.specs.Pick.{if◌then◌or_else◌}
use Rattle.base_words.specs.Words.{digits}

-- the byte of a digit
abbrev pub digit : ℕ → ℕ
digit d = 48 + d

-- the decimal digits of n, of which there are at most k
unfoldable pub shown_from : ℕ → ℕ → Bytes
shown_from zero n = []
shown_from (suc k) n = if ltb n 10 then digit n ∷ [] or_else shown_from k (n / 10) ++ (digit (n % 10) ∷ [])

-- the text of a word
unfoldable pub shown : ℕ → Bytes
shown n = shown_from digits n

-- whether a byte is a digit
abbrev pub is_digit : ℕ → Bool
is_digit b = leb 48 b && leb b 57

-- the number that digits spell behind the number v
unfoldable pub fold_digits : ℕ → List ℕ → ℕ
fold_digits v [] = v
fold_digits v (b ∷ w) = fold_digits (v * 10 + (b - 48)) w
