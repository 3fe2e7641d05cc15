-- Points, computed: which texts agree with `pool( 0` at its number. Assumes nothing.
use Prim.Native.Nat.{ℕ}
use mathlib.Core.Path.{◌≡◌, refl, ap}
use mathlib.Core.List.{List}
use native.Mathlib.Omega.{arith}
use Rattle.base_words.specs.Pick.{if◌then◌or_else◌}
use Rattle.base_words.specs.Text.{bytes}
use Rattle.base_words.specs.Words.{at}
use Rattle.text_lexer.specs.Lexer.{is_blank, is_word, is_sign, token_of, token_here, token_at}
use Rattle.base_bytes.specs.Bytes.{among, between, is_letter, is_digit, past}
use Rattle.proof_places.specs.Places.{Agree}

-- one that goes on; not one with another number
pub longer : Agree (bytes "pool( 0") (bytes "pool( 0,start(1,{}))|") 6
unfolding token_at token_here token_of past is_sign is_digit is_letter is_word is_blank between among if◌then◌or_else◌
longer = record { token = refl; bytes = refl }

pub not_another : Agree (bytes "pool( 0") (bytes "pool( 1") 6 → ⊥
unfolding token_at token_here token_of past is_sign is_digit is_letter is_word is_blank between among if◌then◌or_else◌
not_another a = let e : ◌≡◌ {A = ℕ} 48 49 = ap (λ (s : List ℕ). at s 6) a.bytes in omega (arith, e)
