-- AN ELEMENT'S TEXT: its keyword, and in parentheses its parts with commas between them, from the table of kinds.
use Prim.Native.Char.{code}
use Rattle.std.specs.Prelude.{ℕ, ◌+◌, Bool, false, not, List, [], ◌∷◌, eqb, ltb, length, set, replicate}
use Rattle.base_words.specs.Blocks.{Block, Bytes}
use Rattle.base_words.specs.Pick.{if◌then◌or_else◌}
use Rattle.base_words.specs.Seek.{seek}
use Rattle.base_kinds.specs.Kinds.{kind_of, keyword_of}
use Rattle.base_table.specs.Places.{kind_place}
use Rattle.text_lexer.specs.Lexer.{token_at, if_word}
use Rattle.base_bytes.specs.Bytes.{same_bytes}
use Rattle.text_readers.specs.Reading.{Reader, misplaced, refused_at, nothing, ◌then◌, place_of, behind, letters, sign}
use Rattle.text_parts.specs.Parts.{part_of}

-- how many kinds there are
abbrev pub kind_count : ℕ
kind_count = 15

-- "A keyword is compared whole, as fixed bytes, letter case included": the kind whose keyword a word is, 0 where there is none (RULES: reading)
unfoldable pub is_keyword : Bytes → ℕ → Bool
is_keyword w j = same_bytes w (keyword_of (j + 1))

unfoldable pub kind_named : Bytes → ℕ
kind_named w = if ltb (seek (is_keyword w) kind_count) kind_count then seek (is_keyword w) kind_count + 1 or_else 0

-- the words of an element of kind k with nothing else stored
unfoldable pub blank : ℕ → Block → Block
blank k x = set (replicate (length x) 0) kind_place k

-- parts behind a sign, then commas; a blank stands behind the last part of a row
unfoldable pub parts_from : ℕ → List ℕ → Reader
parts_from s [] = nothing
parts_from s (c ∷ cs) = if eqb c (code " ") then nothing or_else sign s then part_of c then parts_from (code ",") cs

unfoldable pub parts_of : ℕ → Reader
parts_of k = parts_from (code "(") (kind_of k).parts then sign (code ")")

-- the element of kind k whose keyword stands at p, its parts from q on
unfoldable pub element_of : ℕ → ℕ → Reader
element_of k p text q x = if eqb k 0 then refused_at misplaced p (blank 0 x) or_else parts_of k text q (blank k x)

unfoldable pub element : Reader
element text at x =
    if_word (token_at text at).form
    (element_of (kind_named (letters text at)) (place_of text at) text (behind text at) x)
    (refused_at misplaced (place_of text at) (blank 0 x))

-- what can start one more element: one of the fifteen keywords
unfoldable pub starts_element : Bytes → ℕ → Bool
starts_element text at = if_word (token_at text at).form (not (eqb (kind_named (letters text at)) 0)) false
