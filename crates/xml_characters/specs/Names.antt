-- Bytes (R7, R9): "Bytes from 128 are letters of names and characters of text, unexamined." "Names: ASCII letter, `_`, `:` or a byte from 128; then also
-- digits, `-`, `.`." Blanks are space, tab, CR, LF; "a byte below 32 other than tab, LF, CR" stands nowhere. (RULES: xml)
use Prim.Native.Char.{code}
use Rattle.std.specs.Prelude.{ℕ, Bool, not, ◌||◌, ◌&&◌, ltb, leb, eqb}
use Rattle.base_bytes.specs.Bytes.{is_letter, is_digit}

unfoldable pub is_blank : ℕ → Bool
is_blank b = eqb b (code " ") || (eqb b (code "\t") || (eqb b (code "\r") || eqb b (code "\n")))

unfoldable pub is_control : ℕ → Bool
is_control b = ltb b 32 && not (is_blank b)

unfoldable pub begins_name : ℕ → Bool
begins_name b = is_letter b || (eqb b (code "_") || (eqb b (code ":") || leb 128 b))

unfoldable pub is_name : ℕ → Bool
is_name b = begins_name b || (is_digit b || (eqb b (code "-") || eqb b (code ".")))
