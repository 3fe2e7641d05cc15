-- "Numbers are decimal without leading zeros, 0 to 4,294,967,295. A keyword is compared whole, as fixed bytes, letter case included." "An operand is a
-- number or a field": `d0` to `d15`, or a store, `s0` to `s15`. A number of any length above its range is still a number. (RULES: tokens)
use Prim.Native.Char.{code}
use Rattle.std.specs.Prelude.{ℕ, ◌+◌, ◌-◌, ◌*◌, Bool, ◌&&◌, ◌||◌, List, [], ◌∷◌, ltb, leb, eqb, length, drop}
use Rattle.base_words.specs.Blocks.{Bytes}
use Rattle.base_words.specs.Counts.{fields, stores}
use Rattle.base_words.specs.Pick.{if◌then◌or_else◌}
use Rattle.base_words.specs.Words.{at, part, greatest}
use Rattle.text_lexer.specs.Lexer.{is_word}
use Rattle.base_bytes.specs.Bytes.{past, is_digit}
use Rattle.text_numerals.specs.declared.Decimal.{Decimal}
use Rattle.text_numerals.specs.declared.Numeral.{Numeral}
use Rattle.text_numerals.specs.declared.Term.{Term}
use Rattle.text_numerals.specs.declared.Number.{Number}
use Rattle.text_numerals.specs.declared.Number.TheVariants.{Value, TooLarge, NotANumber}
use Rattle.text_numerals.specs.declared.Operand.{Operand}
use Rattle.text_numerals.specs.declared.Operand.TheVariants.{Number as Constant, Field, OutOfRange, NotAnOperand}

-- what v and then the digits of a word come to
unfoldable pub value_from : ℕ → List ℕ → Number
value_from v [] = if leb v greatest then Value v or_else TooLarge
value_from v (d ∷ word) = if is_digit d then value_from (v * 10 + (d - code "0")) word or_else NotANumber

unfoldable pub leading_zero : Bytes → Bool
leading_zero word = ltb 1 (length word) && eqb (at word 0) (code "0")

-- a word as a number
unfoldable pub number_of : Bytes → Number
number_of word = if eqb (length word) 0 then NotANumber or_else if leading_zero word then NotANumber or_else value_from 0 word

-- A FIELD: its letter and a number in that letter's range; in a table it has one number, the stores behind an instance's own
unfoldable pub is_field_letter : ℕ → Bool
is_field_letter letter = eqb letter (code "d") || eqb letter (code "s")

unfoldable pub field_behind : ℕ → ℕ → Number → Number
field_behind before count (Value v) = if ltb v count then Value (v + before) or_else TooLarge
field_behind before count TooLarge = TooLarge
field_behind before count NotANumber = NotANumber

unfoldable pub field_from : ℕ → Number → Number
field_from letter n =
    if eqb letter (code "d") then field_behind 0 fields n
    or_else if eqb letter (code "s") then field_behind fields stores n
    or_else NotANumber

unfoldable pub field_of : Bytes → Number
field_of word = field_from (at word 0) (number_of (drop 1 word))

-- a word as an operand
unfoldable pub as_number : Number → Operand
as_number (Value v) = Constant v
as_number TooLarge = OutOfRange
as_number NotANumber = NotAnOperand

unfoldable pub as_field : Number → Operand
as_field (Value d) = Field d
as_field TooLarge = OutOfRange
as_field NotANumber = NotAnOperand

unfoldable pub operand_of : Bytes → Operand
operand_of word = if is_field_letter (at word 0) then as_field (field_of word) or_else as_number (number_of word)

-- THE SAME FROM A PLACE OF A TEXT ON, in one go: v and then the digits of s, which starts at the place p; above the greatest word a value grows no more
unfoldable pub grown : ℕ → ℕ → ℕ
grown v d = if leb v greatest then v * 10 + (d - code "0") or_else v

unfoldable pub digits_from : ℕ → List ℕ → ℕ → Decimal
digits_from v [] p = record { value = v; end = p }
digits_from v (d ∷ s) p = if is_digit d then digits_from (grown v d) s (p + 1) or_else record { value = v; end = p }

-- a word of digits alone, which come to v
unfoldable pub number_by : ℕ → Bytes → Number
number_by v word = if eqb (length word) 0 then NotANumber or_else if leading_zero word then NotANumber or_else value_from v []

-- the word at a place of a text, and the place behind it
abbrev pub word_end : Bytes → ℕ → ℕ
word_end text p = past is_word (drop p text) p

unfoldable pub numeral_at : Bytes → ℕ → Numeral
numeral_at text p = record { number = number_of (part text p (word_end text p)); next = word_end text p }

unfoldable pub operand_at : Bytes → ℕ → Term
operand_at text p = record { operand = operand_of (part text p (word_end text p)); next = word_end text p }

-- one choice for each pattern that a reader takes an answer apart with
unfoldable pub if_value : {A : Type 0} → Number → (ℕ → A) → A → A
if_value (Value v) a b = a v
if_value TooLarge a b = b
if_value NotANumber a b = b

unfoldable pub if_too_large : {A : Type 0} → Number → A → A → A
if_too_large (Value v) a b = b
if_too_large TooLarge a b = a
if_too_large NotANumber a b = b

unfoldable pub if_number : {A : Type 0} → Operand → (ℕ → A) → A → A
if_number (Constant v) a b = a v
if_number (Field f) a b = b
if_number OutOfRange a b = b
if_number NotAnOperand a b = b

unfoldable pub if_field : {A : Type 0} → Operand → (ℕ → A) → A → A
if_field (Constant v) a b = b
if_field (Field f) a b = a f
if_field OutOfRange a b = b
if_field NotAnOperand a b = b

unfoldable pub if_out_of_range : {A : Type 0} → Operand → A → A → A
if_out_of_range (Constant v) a b = b
if_out_of_range (Field f) a b = b
if_out_of_range OutOfRange a b = a
if_out_of_range NotAnOperand a b = b
