-- THE SEQUENCE OF A TEXT'S TOKENS. "Blank, tab and newline may stand between tokens": they are no part of it. And what it is for two texts to be answered alike. (RULES: tokens)
use Rattle.std.specs.Prelude.{ℕ, zero, suc, ◌≤◌, ◌≡◌, List, [], ◌∷◌, ◌++◌, length, take, drop}
use Rattle.text_lexer.specs.declared.Form.{Form}
use Rattle.text_lexer.specs.Lexer.{token_at, if_end}
use Rattle.text_readers.specs.Reading.{behind, letters}
use Rattle.text_read.specs.Notation.{ReadInto}
use Rattle.proof_places.specs.Places.{behind_first, kth_token}

-- a token without its place
pub record Lexeme : Type 0 where
  pub form : Form
  pub letters : List ℕ

abbrev pub lexeme : List ℕ → ℕ → Lexeme
lexeme text at = record { form = (token_at text at).form; letters = letters text at }

-- the tokens from a place on up to the end, n of them at most; a text has at most as many as bytes
unfoldable pub tokens_from : ℕ → List ℕ → ℕ → List Lexeme
tokens_from zero text at = []
tokens_from (suc n) text at = if_end (token_at text at).form [] (lexeme text at ∷ tokens_from n text (behind text at))

unfoldable pub tokens : List ℕ → List Lexeme
tokens text = tokens_from (length text) text 0

-- a place behind a token, or among the blanks behind it; the text with blanks b put in at a place
pub record Between (t : List ℕ) (p : ℕ) : Type 0 where
  pub ordinal : ℕ
  pub behind_it : behind_first t ordinal ≤ p
  pub before_next : p ≤ (kth_token t ordinal).at

abbrev pub spaced : List ℕ → ℕ → List ℕ → List ℕ
spaced t p b = take p t ++ (b ++ drop p t)

-- reading t and u into the table x: the same answer; or the same number, with the table as it was and the places of tokens that have the same ordinal
pub data AnswerAlike (t u x : List ℕ) (r s : ReadInto) : Type 0 where
  same : r ≡ s → AnswerAlike t u x r s
  placed : (n k : ℕ) → r ≡ record { number = n; beside = (kth_token t k).at; table = x } → s ≡ record { number = n; beside = (kth_token u k).at; table = x } → AnswerAlike t u x r s
