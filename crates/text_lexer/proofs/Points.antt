-- Tokens tried on texts. Assumes nothing.
use mathlib.Core.Path.{◌≡◌, refl}
use Rattle.base_words.specs.Pick.{if◌then◌or_else◌}
use Rattle.base_words.specs.Text.{bytes}
use Rattle.text_lexer.specs.declared.Form.TheVariants.{Word, Sign, Assign, End, Other}
use Rattle.text_lexer.specs.Lexer.{is_blank, is_word, is_sign, placed, token_of, token_here, token_at}
use Rattle.base_bytes.specs.Bytes.{among, between, is_digit, is_letter, past}

pub record Tokens : Type 0 where
  pub longest_run : token_at (bytes "na_nc1,") 0 ≡ placed Word 0 6
  pub blanks_before : token_at (bytes "( \t\n 12d)") 1 ≡ placed Word 5 8
  pub bar : token_at (bytes "|start") 0 ≡ placed (Sign 124) 0 1
  pub assign : token_at (bytes "d0:=1") 2 ≡ placed Assign 2 4
  pub colon_blank : token_at (bytes "d0: =1") 2 ≡ placed (Sign 58) 2 3
  pub colon_last : token_at (bytes "d0:") 2 ≡ placed (Sign 58) 2 3
  pub carriage_return : token_at (bytes "\r\n") 0 ≡ placed Other 0 1
  pub semicolon : token_at (bytes "a;") 1 ≡ placed Other 1 2
  pub end_behind_blanks : token_at (bytes "pool(1,  ") 7 ≡ placed End 9 9
  pub empty : token_at (bytes "") 0 ≡ placed End 0 0
  pub beyond : token_at (bytes "ab") 5 ≡ placed End 5 5

pub tokens : Tokens
unfolding if◌then◌or_else◌ among between is_blank is_digit is_letter is_word is_sign past token_of token_here token_at
tokens = record {
  longest_run = refl;
  blanks_before = refl;
  bar = refl;
  assign = refl;
  colon_blank = refl;
  colon_last = refl;
  carriage_return = refl;
  semicolon = refl;
  end_behind_blanks = refl;
  empty = refl;
  beyond = refl;
}
