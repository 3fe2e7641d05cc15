-- Tokens of document 01 in what is said: "blank, tab and newline may stand between tokens. A word is the longest run of letters, digits and `_`." (RULES: flows)
use Prim.Native.Char.{code}
use Rattle.std.specs.Prelude.{ℕ, ◌+◌, ◌-◌, ◌*◌, Bool, true, false, List, [], ◌∷◌, leb, Option, Some, None}
use Rattle.base_words.specs.Blocks.{Bytes}
use Rattle.base_words.specs.Pick.{if◌then◌or_else◌}
use Rattle.base_words.specs.Words.{greatest}
use Rattle.text_lexer.specs.Lexer.{is_blank, is_word}
use Rattle.base_table.specs.Places.{a_field}
use Rattle.text_numerals.specs.declared.Operand.{Operand}
use Rattle.text_numerals.specs.declared.Operand.TheVariants.{Number as Constant, Field, OutOfRange, NotAnOperand}
use Rattle.text_numerals.specs.Numerals.{operand_of}
use Rattle.draw_conditions.specs.declared.Term.{Term}
use Rattle.draw_conditions.specs.declared.spelled.Class.{Class}
use Rattle.draw_conditions.specs.declared.spelled.Class.TheVariants.{Blanks, Word}
use Rattle.draw_conditions.specs.declared.spelled.Side.{Side}
use Rattle.draw_conditions.specs.Saying.{Said, said}
use Rattle.draw_conditions.specs.declared.saying.Seen.{Seen}

unfoldable pub is_of : Class → ℕ → Bool
is_of Blanks b = is_blank b
is_of Word b = is_word b

-- what stands behind the blanks, or behind the word, that come first
unfoldable pub behind : Class → List Said → List Said
behind class [] = []
behind class (x ∷ s) = if is_of class x.byte then behind class s or_else x ∷ s

-- the word that comes first; no byte where none does
unfoldable pub letters : List Said → Bytes
letters [] = []
letters (x ∷ s) = if is_word x.byte then x.byte ∷ letters s or_else []

-- the same by the view of the next byte, where it is of a word
unfoldable pub spelt : Bytes → Option Seen → Bytes
spelt t (Some v) = v.byte ∷ letters (said t v.next)
spelt t None = []

unfoldable pub goes_on : List ℕ → Bool
goes_on [] = false
goes_on (b ∷ w) = true

-- one digit more; a value above the greatest word grows no further
unfoldable pub grown : ℕ → ℕ → ℕ
grown v b = if leb v greatest then v * 10 + (b - code "0") or_else v

unfoldable pub place_said : List Said → ℕ
place_said [] = 0
place_said (x ∷ s) = x.place

unfoldable pub is_over : List Said → Bool
is_over [] = true
is_over (x ∷ s) = false

-- a flag and a number, as a table has them
abbrev pub term : ℕ → ℕ → Term
term flag n = record { flag = flag; number = n }

abbrev pub nothing : Term
nothing = term 0 0

-- an operand, and its place where it is out of range; or none
abbrev pub side : Bool → Term → ℕ → Side
side stands x beyond = record { stands = stands; term = x; beyond = beyond }

unfoldable pub side_of : Operand → ℕ → Side
side_of (Constant v) place = side true (term 0 v) 0
side_of (Field f) place = side true (term a_field f) 0
side_of OutOfRange place = side true nothing place
side_of NotAnOperand place = side false nothing 0

unfoldable pub side_at : List Said → Side
side_at s = side_of (operand_of (letters s)) (place_said s)
