-- "Blank, tab and newline may stand between tokens. A word is the longest run of letters, digits and `_`; `:=` is one token." "A byte that starts
-- no token counts as one." A token is a function of the bytes that are left and of the place where they start. (RULES: tokens)
use Prim.Native.Char.{code}
use Rattle.std.specs.Prelude.{ℕ, ◌+◌, Bool, not, ◌||◌, List, [], ◌∷◌, eqb, drop}
use Rattle.base_bytes.specs.Bytes.{among, is_digit, is_letter, past}
use Rattle.base_words.specs.Blocks.{Bytes}
use Rattle.base_words.specs.Pick.{if◌then◌or_else◌}
use Rattle.base_words.specs.Text.{bytes}
use Rattle.base_words.specs.Words.{at}
use Rattle.text_lexer.specs.declared.Form.{Form}
use Rattle.text_lexer.specs.declared.Form.TheVariants.{Word, Sign, Assign, End, Other}
use Rattle.text_lexer.specs.declared.Token.{Token}

-- the classes of bytes; all others start no token
abbrev pub blanks : Bytes
blanks = bytes " \t\n"

abbrev pub signs : Bytes
signs = bytes "|(){},<>?+-="

unfoldable pub is_blank : ℕ → Bool
is_blank b = among blanks b

unfoldable pub is_sign : ℕ → Bool
is_sign b = among signs b

unfoldable pub is_word : ℕ → Bool
is_word b = is_letter b || (is_digit b || eqb b (code "_"))

abbrev pub placed : Form → ℕ → ℕ → Token
placed form p q = record { form = form; at = p; next = q }

-- the token that the byte b at the place p begins, with the bytes s behind it
unfoldable pub token_of : ℕ → Bytes → ℕ → Token
token_of b s p =
    if is_word b then placed Word p (past is_word s (p + 1))
    or_else if is_sign b then placed (Sign b) p (p + 1)
    or_else if not (eqb b (code ":")) then placed Other p (p + 1)
    or_else if eqb (at s 0) (code "=") then placed Assign p (p + 2)
    or_else placed (Sign b) p (p + 1)

-- the token that the bytes left begin with, no blank first
unfoldable pub token_here : List ℕ → ℕ → Token
token_here [] p = placed End p p
token_here (b ∷ s) p = token_of b s p

-- the next token at or after a place of the text; beyond the text it is the end, at that place
unfoldable pub token_at : Bytes → ℕ → Token
token_at text from = let p = past is_blank (drop from text) from in token_here (drop p text) p

-- by the token's form: one choice for each pattern that a reader takes a token apart with
unfoldable pub if_word : {A : Type 0} → Form → A → A → A
if_word Word a b = a
if_word (Sign s) a b = b
if_word Assign a b = b
if_word End a b = b
if_word Other a b = b

unfoldable pub if_sign : {A : Type 0} → Form → (ℕ → A) → A → A
if_sign Word a b = b
if_sign (Sign s) a b = a s
if_sign Assign a b = b
if_sign End a b = b
if_sign Other a b = b

unfoldable pub if_assign : {A : Type 0} → Form → A → A → A
if_assign Word a b = b
if_assign (Sign s) a b = b
if_assign Assign a b = a
if_assign End a b = b
if_assign Other a b = b

unfoldable pub if_end : {A : Type 0} → Form → A → A → A
if_end Word a b = b
if_end (Sign s) a b = b
if_end Assign a b = b
if_end End a b = a
if_end Other a b = b

-- the place behind a given sign, where it is the token that the bytes left begin with; else the place itself
unfoldable pub sign_behind : ℕ → Bytes → ℕ → ℕ
sign_behind s left p = if_sign (token_here left p).form (λ b. if eqb b s then p + 1 or_else p) p
