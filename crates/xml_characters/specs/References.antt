-- References (R3): "`&lt; &gt; &amp; &quot; &apos;`, `&#..;`, `&#x..;`", and the characters of XML 1.0. A token here is its bytes from the `&` on, without the `;`.
-- A reference that says no character is 0, which is no character of XML either. (RULES: xml)
use Prim.Native.Char.{code}
use Rattle.std.specs.Prelude.{ℕ, ◌+◌, ◌-◌, ◌*◌, Bool, true, false, List, [], ◌∷◌, ltb, leb, eqb, length}
use Rattle.base_words.specs.Blocks.{Bytes}
use Rattle.base_words.specs.Pick.{if◌then◌or_else◌}
use Rattle.base_words.specs.Text.{bytes}
use Rattle.base_words.specs.Words.{at, part}
use Rattle.base_bytes.specs.Bytes.{same_bytes}
use Rattle.xml_characters.specs.Names.{is_blank}

-- the greatest character
abbrev pub greatest_character : ℕ
greatest_character = 1114111

-- what a digit is worth, in either letter case; 16 for a byte that is none
unfoldable pub digit : ℕ → ℕ
digit b =
    if ltb b (code "0") then 16
    or_else if ltb b (code ":") then b - code "0"
    or_else if ltb b (code "A") then 16
    or_else if ltb b (code "G") then b - code "A" + 10
    or_else if ltb b (code "a") then 16
    or_else if ltb b (code "g") then b - code "a" + 10
    or_else 16

-- decimal, or hexadecimal
unfoldable pub base : Bool → ℕ
base hex = if hex then 16 or_else 10

-- one digit more; above the greatest character the number grows no further
unfoldable pub more : Bool → ℕ → ℕ → ℕ
more hex v d = if ltb greatest_character v then v or_else if hex then v * 16 + d or_else v * 10 + d

unfoldable pub number_from : Bool → ℕ → List ℕ → ℕ
number_from hex v [] = v
number_from hex v (b ∷ w) = if ltb (digit b) (base hex) then number_from hex (more hex v (digit b)) w or_else 0

unfoldable pub numbered : Bytes → ℕ
numbered w =
    if eqb (at w 1) (code "#") then (if eqb (at w 2) (code "x") then number_from true 0 (part w 3 (length w)) or_else number_from false 0 (part w 2 (length w)))
    or_else 0

-- the character that a reference says
unfoldable pub character_of : Bytes → ℕ
character_of w =
    if same_bytes w (bytes "&lt") then code "<"
    or_else if same_bytes w (bytes "&gt") then code ">"
    or_else if same_bytes w (bytes "&amp") then code "&"
    or_else if same_bytes w (bytes "&quot") then code "\""
    or_else if same_bytes w (bytes "&apos") then code "'"
    or_else numbered w

-- a character of XML 1.0: below 32 the blanks alone, no surrogates, not the last two of the first plane
unfoldable pub is_character : ℕ → Bool
is_character n =
    if ltb n 32 then is_blank n
    or_else if ltb n 55296 then true
    or_else if ltb n 57344 then false
    or_else if ltb n 65534 then true
    or_else if ltb n 65536 then false
    or_else leb n greatest_character
