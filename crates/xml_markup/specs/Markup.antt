-- What markup stands at a place (R3 to R5). "A text that breaks off anywhere is 20 at its length; so is a name, reference or opening that runs up to the end" (R4):
-- whatever is read byte by byte and meets the end of the text is a fault there. (RULES: xml)
use Prim.Native.Char.{code}
use Rattle.std.specs.Prelude.{ℕ, ◌+◌, Bool, ◌||◌, List, [], ◌∷◌, leb, eqb, length, drop}
use Rattle.base_words.specs.Blocks.{Bytes}
use Rattle.base_words.specs.Pick.{if◌then◌or_else◌}
use Rattle.base_words.specs.Text.{bytes}
use Rattle.base_words.specs.Words.{at, part}
use Rattle.base_bytes.specs.Bytes.{same_bytes}
use Rattle.xml_scanner.specs.declared.Sort.{Sort}
use Rattle.xml_scanner.specs.declared.Sort.TheVariants.{Text, End, Fault as AFault}
use Rattle.xml_markup.specs.declared.Cursor.{Cursor}
use Rattle.xml_markup.specs.declared.Scan.{Scan}
use Rattle.xml_markup.specs.declared.Scan.TheVariants.{On, Past, Fault}
use Rattle.xml_markup.specs.declared.Markup.{Markup}
use Rattle.xml_characters.specs.Names.{is_control}
use Rattle.xml_markup.specs.Tokens.{whole, moved, if_on, begun, is_faulty}

-- One byte: first the token that it shows to be whole is judged; then "a byte below 32 other than tab, LF, CR: there, wherever it is"; then it moves on. (RULES: xml)
unfoldable pub advance : Bytes → ℕ → Cursor → ℕ → Scan
advance t start c i =
    if leb (length t) i then Fault i
    or_else if is_faulty (whole c.state (at t i)) (part t 0 i) start c.mark then Fault c.mark
    or_else if is_control (at t i) then Fault i
    or_else moved c (at t i) i (i + 1)

-- byte by byte, with the bytes s from the place i on
unfoldable pub scan_from : Bytes → ℕ → Cursor → List ℕ → ℕ → Scan
scan_from t start c [] i = Fault i
scan_from t start c (b ∷ s) i = if_on (advance t start c i) (λ next. scan_from t start next s (i + 1)) (advance t start c i)

unfoldable pub scan : Bytes → ℕ → Scan
scan t p = scan_from t p (begun p) (drop p t) p

-- the bytes from i on begin with w
unfoldable pub begins_at : Bytes → ℕ → Bytes → Bool
begins_at t i w = same_bytes (part (part t i (length t)) 0 (length w)) w

-- "`]]>` in character data: at the first `]`" (RULES: xml)
unfoldable pub closes_data : Bytes → ℕ → Bool
closes_data t i = begins_at t i (bytes "]]>")

unfoldable pub opens_markup : ℕ → Bool
opens_markup b = eqb b (code "<") || eqb b (code "&")

-- character data goes up to `<`, `&` or the end of the text
unfoldable pub text_from : Bytes → List ℕ → ℕ → Scan
text_from t [] i = Past Text i
text_from t (b ∷ s) i =
    if opens_markup (at t i) then Past Text i
    or_else if is_control (at t i) then Fault i
    or_else if closes_data t i then Fault i
    or_else text_from t s (i + 1)

abbrev pub marked : Sort → ℕ → Markup
marked sort q = record { sort = sort; next = q }

unfoldable pub placed : Scan → Markup
placed (On c) = marked AFault c.mark
placed (Past sort q) = marked sort q
placed (Fault q) = marked AFault q

unfoldable pub markup : Bytes → ℕ → Markup
markup t p =
    if leb (length t) p then marked End (length t)
    or_else if opens_markup (at t p) then placed (scan t p)
    or_else placed (text_from t (drop p t) p)
