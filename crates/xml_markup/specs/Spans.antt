-- Where a tag's name and its attributes' values stand, and how names are compared. "Prefixes are not resolved: an element's name is what stands behind its last colon.
-- Attributes are compared whole. An end tag repeats the start tag's name byte for byte." (R6) (RULES: xml)
use Prim.Native.Char.{code}
use Rattle.std.specs.Prelude.{ℕ, ◌+◌, Bool, false, not, ◌||◌, List, [], ◌∷◌, ltb, leb, eqb, length, drop, Option, Some, None}
use Rattle.base_words.specs.Blocks.{Bytes}
use Rattle.base_words.specs.Pick.{if◌then◌or_else◌}
use Rattle.base_words.specs.Words.{at, part}
use Rattle.base_bytes.specs.Bytes.{past}
use Rattle.base_bytes.specs.Bytes.{same_bytes}
use Rattle.xml_markup.specs.declared.Class.{Class}
use Rattle.xml_markup.specs.declared.Class.TheVariants.{Blanks, Name, Value}
use Rattle.xml_markup.specs.declared.Span.{Span}
use Rattle.xml_markup.specs.declared.Opener.{Opener}
use Rattle.xml_markup.specs.declared.Opener.TheVariants.{Start, End, Other}
use Rattle.xml_characters.specs.Names.{is_blank, begins_name, is_name}
use Rattle.xml_markup.specs.Tokens.{found}

-- a run of blanks, of a name's bytes, of all that is not this quote
unfoldable pub is_of : Class → ℕ → Bool
is_of Blanks b = is_blank b
is_of Name b = is_name b
is_of (Value q) b = not (eqb b q)

unfoldable pub run : Class → Bytes → ℕ → ℕ
run class t from = past (is_of class) (drop from t) from

-- one byte on; the end stays
unfoldable pub after : Bytes → ℕ → ℕ
after t i = if ltb i (length t) then i + 1 or_else length t

-- the name of the tag or instruction at p: behind `<`, `</` or `<?`
unfoldable pub has_second : ℕ → Bool
has_second b = eqb b (code "/") || eqb b (code "?")

unfoldable pub name_from : Bytes → ℕ → ℕ
name_from t p = if has_second (at t (after t p)) then after t (after t p) or_else after t p

unfoldable pub name_at : Bytes → ℕ → Span
name_at t p = record { from = name_from t p; to = run Name t (name_from t p) }

unfoldable pub bytes_of : Bytes → Span → Bytes
bytes_of t s = part t s.from s.to

-- a token `<`name or `</`name at p that is whole: the byte behind it stands in the text
unfoldable pub opens_name : Bytes → ℕ → Bool
opens_name t p =
    if eqb (at t p) (code "<") then (if leb (length t) (name_at t p).to then false or_else begins_name (at t (name_at t p).from))
    or_else false

unfoldable pub second : Bytes → ℕ → ℕ
second t p = at t (after t p)

unfoldable pub opener : Bytes → ℕ → Opener
opener t p =
    if not (opens_name t p) then Other
    or_else if eqb (second t p) (code "/") then End
    or_else if eqb (second t p) (code "?") then Other
    or_else Start

-- what stands behind the last colon; a name without one is all of it
unfoldable pub behind_colon : ℕ → ℕ → ℕ → ℕ
behind_colon b q r = if eqb b (code ":") then q or_else r

unfoldable pub local_from : List ℕ → ℕ → ℕ → ℕ
local_from [] i r = r
local_from (b ∷ w) i r = local_from w (i + 1) (behind_colon b (i + 1) r)

unfoldable pub local_of : Bytes → Bytes
local_of w = part w (local_from w 0 0) (length w)

-- the element whose tag is at p is called so
unfoldable pub is_called : Bytes → ℕ → Bytes → Bool
is_called t p name = same_bytes (local_of (bytes_of t (name_at t p))) name

-- the tags at p and at q have the same name
unfoldable pub same_name : Bytes → ℕ → ℕ → Bool
same_name t p q = same_bytes (bytes_of t (name_at t p)) (bytes_of t (name_at t q))

-- the value whose attribute's name ends at i: behind `=` and the quote, up to the same quote
unfoldable pub quote_at : Bytes → ℕ → ℕ
quote_at t i = run Blanks t (after t (run Blanks t i))

unfoldable pub value_at : Bytes → ℕ → Option (ℕ × ℕ)
value_at t q = Some (after t q, run (Value (at t q)) t (after t q))

unfoldable pub value_of : Bytes → Option ℕ → Option (ℕ × ℕ)
value_of t (Some i) = value_at t (quote_at t i)
value_of t None = None

unfoldable pub attribute : Bytes → ℕ → Bytes → Option (ℕ × ℕ)
attribute t p name = value_of t (found t name p)
