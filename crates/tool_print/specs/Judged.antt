-- What is said of a log: "`lawful`, `refused 23 PLACE`, `refused 24 ORDINAL NUMBER`"; a bad table is refused with 10 alone, another version with 25. Its newline is with it. (RULES: lines)
use Rattle.std.specs.Prelude.{ℕ, ◌+◌, Bool, ◌||◌, List, [], ◌++◌, eqb}
use Rattle.base_words.specs.Pick.{if◌then◌or_else◌}
use Rattle.base_words.specs.Text.{bytes}
use Rattle.base_words.specs.Words.{digits}
use Rattle.write_decimals.specs.Decimals.{shown}

-- a number behind a blank, where one is said
unfoldable pub beside_line : Bool → ℕ → List ℕ
beside_line told n = if told then bytes " " ++ shown n or_else []

-- only 23 and 24 have something beside them
unfoldable pub has_beside : ℕ → Bool
has_beside number = eqb number 23 || eqb number 24

unfoldable pub unlawful_line : ℕ → ℕ → ℕ → List ℕ
unlawful_line number beside own =
    bytes "refused " ++ shown number ++ beside_line (has_beside number) beside ++ beside_line (eqb number 24) own ++ bytes "\n"

unfoldable pub judged_line : ℕ → ℕ → ℕ → List ℕ
judged_line number beside own = if eqb number 0 then bytes "lawful\n" or_else unlawful_line number beside own

abbrev pub judged_most : ℕ
judged_most = 8 + digits + (1 + digits) + (1 + digits) + 1
