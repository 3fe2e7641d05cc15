-- A point, computed: a text whose refusal has a place, and another that agrees with it there and goes on. Assumes nothing.
use mathlib.Core.Path.{◌≡◌, refl}
use Rattle.base_words.specs.Pick.{if◌then◌or_else◌}
use Rattle.base_words.specs.Text.{bytes}
use Rattle.text_lexer.specs.Lexer.{is_blank, is_word, is_sign, token_of, token_here, token_at, if_word, if_sign}
use Rattle.base_bytes.specs.Bytes.{among, between, is_letter, is_digit, past}
use Rattle.text_numerals.specs.Numerals.{value_from, leading_zero, number_of}
use Rattle.base_bytes.specs.Bytes.{same_bytes}
use Rattle.text_readers.specs.Reading.{Refused, if_at, onward, ◌then◌, sign_at, keep_number, number}
use Rattle.text_read.specs.Notation.{barred, pool_word, opening, inside_pool, pool_of_word, pool, pools_at, model}
use Rattle.proof_places.proofs.Agreeing.{longer}
use Rattle.proof_places.proofs.PlaceRight.{place_right}

-- "3: a number is outside its range", at the number
short_refused : (model (bytes "pool( 0")).end ≡ Refused 3 6
unfolding model pools_at barred pool pool_word pool_of_word inside_pool opening number keep_number sign_at ◌then◌ onward if_at if_sign if_word token_at token_here token_of past is_sign is_digit is_letter is_word is_blank between among number_of leading_zero value_from same_bytes if◌then◌or_else◌
short_refused = refl

pub long_refused : (model (bytes "pool( 0,start(1,{}))|")).end ≡ Refused 3 6
long_refused = place_right (bytes "pool( 0") (bytes "pool( 0,start(1,{}))|") 3 6 short_refused longer
