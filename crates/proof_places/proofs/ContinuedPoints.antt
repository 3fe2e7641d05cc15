-- Points, computed: a text that goes on, and one that goes on only with one item too many. Assumes nothing.
use mathlib.Core.Path.{◌≡◌, refl}
use Rattle.base_words.specs.Pick.{if◌then◌or_else◌}
use Rattle.base_words.specs.Seek.{seek}
use Rattle.base_words.specs.Text.{bytes}
use Rattle.base_kinds.specs.Kinds.{kind_of}
use Rattle.text_lexer.specs.Lexer.{is_blank, is_word, is_sign, token_of, token_here, token_at, if_word, if_sign, if_end}
use Rattle.base_bytes.specs.Bytes.{among, between, is_letter, is_digit, past}
use Rattle.text_numerals.specs.Numerals.{value_from, leading_zero, number_of}
use Rattle.base_bytes.specs.Bytes.{same_bytes}
use Rattle.std.specs.declared.result.Result.TheVariants.{Ok}
use Rattle.text_readers.specs.Reading.{Refused, if_at, onward, ◌then◌, sign_at, end_at, keep_number, number, is_spelled, starts_number}
use Rattle.text_parts.specs.Parts.{item_of, starts, too_many, counted, items_from, items, inside, series, one_edge, part_of}
use Rattle.text_elements.specs.Elements.{is_keyword, kind_named, blank, parts_from, parts_of, element_of, element}
use Rattle.text_read.specs.Notation.{put_before, barred, element_alone, elements_at, pool_word, opening, closing, closed, inside_pool, pool_of_word, pool, pools_at, model}
use Rattle.proof_places.specs.Continued.{resumed}

pub record Ends : Type 0 where
  pub short : (model (bytes "pool(1,end(1")).end ≡ Refused 2 12
  pub whole : (model (resumed (bytes "pool(1,end(1") 12 (bytes "))"))).end ≡ Ok 15
  pub full : (model (bytes "pool(1,andJoin({1,2,3,4,5,6,7,8,},9))")).end ≡ Refused 2 32
  pub one_more_lem : (model (resumed (bytes "pool(1,andJoin({1,2,3,4,5,6,7,8,},9))") 32 (bytes "9"))).end ≡ Refused 3 33

pub ends : Ends
unfolding among between is_blank is_word is_letter is_digit is_sign past token_of token_here token_at if_word if_sign if_end value_from leading_zero number_of same_bytes if_at onward ◌then◌ sign_at end_at keep_number number is_spelled starts_number item_of starts too_many counted items_from items inside series one_edge part_of is_keyword kind_named blank parts_from parts_of element_of element put_before barred element_alone elements_at pool_word opening closing closed inside_pool pool_of_word pool pools_at model seek kind_of if◌then◌or_else◌
ends = record { short = refl; whole = refl; full = refl; one_more_lem = refl }
