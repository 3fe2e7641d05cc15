-- Points, computed: the tokens of a text, and two texts that differ in their blanks alone. Assumes nothing.
use mathlib.Core.Path.{◌≡◌, refl}
use mathlib.Core.List.{[], ◌∷◌}
use Rattle.base_words.specs.Pick.{if◌then◌or_else◌}
use Rattle.base_words.specs.Text.{bytes}
use Rattle.base_words.specs.Words.{at}
use Rattle.text_lexer.specs.declared.Form.TheVariants.{Word, Assign, Other}
use Rattle.text_lexer.specs.Lexer.{is_blank, is_word, is_sign, token_of, token_here, token_at, if_end}
use Rattle.base_bytes.specs.Bytes.{among, between, is_letter, is_digit, past}
use Rattle.proof_places.specs.Sequence.{lexeme, tokens_from, tokens}

pub record Points : Type 0 where
  pub digit : at (lexeme (bytes " d7 ;") 0).letters 1 ≡ 55
  pub four : tokens (bytes " d0:=12 ;\n")
      ≡ record { form = Word; letters = bytes "d0" } ∷ record { form = Assign; letters = bytes ":=" }
      ∷ record { form = Word; letters = bytes "12" } ∷ record { form = Other; letters = bytes ";" } ∷ []
  pub none : tokens (bytes " \t\n") ≡ []
  pub blanks : tokens (bytes "\tpool ( 1 ,\n") ≡ tokens (bytes "pool(1,")

pub points : Points
unfolding tokens tokens_from token_at token_here token_of past is_sign is_digit is_letter is_word is_blank between among if_end if◌then◌or_else◌
points = record { digit = refl; four = refl; none = refl; blanks = refl }
