-- READING. A reader takes a text, a place in it and words that it may store in, and gives the place behind what it read, or a refusal with its place; and the
-- words afterwards. The leftmost place decides, since readers go from left to right.
use Rattle.std.specs.Prelude.{ℕ, ◌+◌, ◌-◌, Bool, true, false, ◌&&◌, List, eqb, leb, set, Result, Ok, Err}
use Rattle.base_words.specs.Blocks.{Block, Bytes}
use Rattle.base_words.specs.Pick.{if◌then◌or_else◌}
use Rattle.base_words.specs.Text.{bytes}
use Rattle.base_words.specs.Words.{part}
use Rattle.base_words.specs.Counts.{fields_named}
use Rattle.base_kinds.specs.Moves.{a, na_c, na_nc}
use Rattle.base_table.specs.Places.{a_field, operand_number, mode_place}
use Rattle.text_lexer.specs.Lexer.{token_at, if_word, if_sign, if_assign, if_end}
use Rattle.text_numerals.specs.declared.Number.{Number}
use Rattle.text_numerals.specs.declared.Number.TheVariants.{Value, TooLarge, NotANumber}
use Rattle.text_numerals.specs.declared.Operand.{Operand}
use Rattle.text_numerals.specs.declared.Operand.TheVariants.{Number as OfNumber, Field, OutOfRange, NotAnOperand}
use Rattle.text_numerals.specs.Numerals.{number_of, field_of, operand_of}
use Rattle.base_bytes.specs.Bytes.{same_bytes}
use Rattle.text_readers.specs.declared.Refusal.{Refusal}

-- the place behind what was read; or the number of a refusal and its place
abbrev pub Read : Type 0
Read = Result ℕ Refusal

abbrev pub Refused : ℕ → ℕ → Read
Refused n p = Err (record { number = n; place = p })

pub record Parsed : Type 0 where
  pub end : Read
  pub words : List ℕ

abbrev pub Reader : Type 0
Reader = List ℕ → ℕ → List ℕ → Parsed

-- "2: the token at this place (or the text's end) continues no text of the notation"; "3: a number is outside its range or a count above it" (RULES: places)
abbrev pub misplaced : ℕ
misplaced = 2

abbrev pub excessive : ℕ
excessive = 3

abbrev pub passed_to : ℕ → Block → Parsed
passed_to q x = record { end = Ok q; words = x }

abbrev pub refused_at : ℕ → ℕ → Block → Parsed
refused_at n p x = record { end = Refused n p; words = x }

unfoldable pub if_at : {A : Type 0} → Read → (ℕ → A) → A → A
if_at (Ok q) go stay = go q
if_at (Err e) go stay = stay

-- what follows on a reading, where it was not refused
unfoldable pub onward : Parsed → (ℕ → List ℕ → Parsed) → Parsed
onward r go = if_at r.end (λ q. go q r.words) r

-- one reader after the other
infixr 40 ◌then◌
unfoldable pub ◌then◌ : Reader → Reader → Reader
(f then g) text at x = onward (f text at x) (g text)

-- nothing read
abbrev pub nothing : Reader
nothing text at x = passed_to at x

-- THE TOKENS. A place is the place of the token's first byte.
abbrev pub place_of : Bytes → ℕ → ℕ
place_of text at = (token_at text at).at

abbrev pub behind : Bytes → ℕ → ℕ
behind text at = (token_at text at).next

-- the bytes of the token at a place
abbrev pub letters : Bytes → ℕ → Bytes
letters text at = part text (place_of text at) (behind text at)

-- a given sign; `:=`; the text's end
unfoldable pub sign_at : ℕ → Bytes → ℕ → Read
sign_at s text at =
    if_sign (token_at text at).form (λ b. if eqb b s then Ok (behind text at) or_else Refused misplaced (place_of text at)) (Refused misplaced (place_of text at))

unfoldable pub assign_at : Bytes → ℕ → Read
assign_at text at = if_assign (token_at text at).form (Ok (behind text at)) (Refused misplaced (place_of text at))

unfoldable pub end_at : Bytes → ℕ → Read
end_at text at = if_end (token_at text at).form (Ok (behind text at)) (Refused misplaced (place_of text at))

-- as readers, which store nothing
abbrev pub sign : ℕ → Reader
sign s text at x = record { end = sign_at s text at; words = x }

abbrev pub assign : Reader
assign text at x = record { end = assign_at text at; words = x }

-- A WORD THAT IS A NUMBER from least to most, or a field `d0` to `d15`, `s0` to `s15`: stored at a place of x. p is where the word stands, q what is behind it.
unfoldable pub keep_number : Number → ℕ → ℕ → ℕ → ℕ → ℕ → Block → Parsed
keep_number (Value v) least most place p q x = if leb least v && leb v most then passed_to q (set x place v) or_else refused_at excessive p x
keep_number TooLarge least most place p q x = refused_at excessive p x
keep_number NotANumber least most place p q x = refused_at misplaced p x

unfoldable pub number : ℕ → ℕ → ℕ → Reader
number least most place text at x =
    if_word (token_at text at).form
    (keep_number (number_of (letters text at)) least most place (place_of text at) (behind text at) x)
    (refused_at misplaced (place_of text at) x)

unfoldable pub field : ℕ → Reader
field place text at x =
    if_word (token_at text at).form
    (keep_number (field_of (letters text at)) 0 (fields_named - 1) place (place_of text at) (behind text at) x)
    (refused_at misplaced (place_of text at) x)

-- "An operand is a number or a field": 0 and the number, or 1 and the field's number (RULES: reading)
unfoldable pub keep_operand : Operand → ℕ → ℕ → ℕ → Block → Parsed
keep_operand (OfNumber v) place p q x = passed_to q (set (set x place 0) (place + operand_number) v)
keep_operand (Field d) place p q x = passed_to q (set (set x place a_field) (place + operand_number) d)
keep_operand OutOfRange place p q x = refused_at excessive p x
keep_operand NotAnOperand place p q x = refused_at misplaced p x

unfoldable pub operand : ℕ → Reader
operand place text at x =
    if_word (token_at text at).form
    (keep_operand (operand_of (letters text at)) place (place_of text at) (behind text at) x)
    (refused_at misplaced (place_of text at) x)

-- "k is `a`, `na_c` or `na_nc`"; 0 for any other word (RULES: reading)
unfoldable pub mode_named : Bytes → ℕ
mode_named w =
    if same_bytes w (bytes "a") then a
    or_else if same_bytes w (bytes "na_c") then na_c
    or_else if same_bytes w (bytes "na_nc") then na_nc
    or_else 0

unfoldable pub keep_mode : ℕ → ℕ → ℕ → Block → Parsed
keep_mode m p q x = if eqb m 0 then refused_at misplaced p x or_else passed_to q (set x mode_place m)

unfoldable pub mode : Reader
mode text at x =
    if_word (token_at text at).form
    (keep_mode (mode_named (letters text at)) (place_of text at) (behind text at) x)
    (refused_at misplaced (place_of text at) x)

-- WHAT CAN START AN ITEM: a number, a field, of any size; a sign
unfoldable pub is_spelled : Number → Bool
is_spelled (Value v) = true
is_spelled TooLarge = true
is_spelled NotANumber = false

unfoldable pub starts_number : Bytes → ℕ → Bool
starts_number text at = if_word (token_at text at).form (is_spelled (number_of (letters text at))) false

unfoldable pub starts_field : Bytes → ℕ → Bool
starts_field text at = if_word (token_at text at).form (is_spelled (field_of (letters text at))) false

unfoldable pub starts_sign : ℕ → Bytes → ℕ → Bool
starts_sign s text at = if_sign (token_at text at).form (λ b. eqb b s) false
