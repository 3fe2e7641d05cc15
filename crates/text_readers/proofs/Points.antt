-- Readers tried on texts. Assumes nothing.
use mathlib.Core.Path.{◌≡◌, refl}
use mathlib.Core.Bool.{true, false}
use mathlib.Core.List.{List, [], ◌∷◌}
use Prim.Native.Char.{code}
use Prim.Native.Nat.{ℕ}
use Rattle.base_words.specs.Pick.{if◌then◌or_else◌}
use Rattle.base_words.specs.Text.{bytes}
use Rattle.text_lexer.specs.Lexer.{is_blank, is_sign, is_word, token_of, token_here, token_at, if_word, if_sign, if_assign, if_end}
use Rattle.base_bytes.specs.Bytes.{among, between, is_digit, is_letter, past}
use Rattle.text_numerals.specs.Numerals.{value_from, leading_zero, number_of, is_field_letter, field_behind, field_from, field_of, as_number, as_field, operand_of}
use Rattle.base_bytes.specs.Bytes.{same_bytes}
use Rattle.std.specs.declared.result.Result.TheVariants.{Ok}
use Rattle.text_readers.specs.Reading.{Refused, passed_to, refused_at, if_at, onward, ◌then◌, sign_at, assign_at, end_at, sign, keep_number, number, field, keep_operand, operand, mode_named, keep_mode, mode, is_spelled, starts_number, starts_field, starts_sign}

abbrev none : List ℕ
none = 0 ∷ 0 ∷ 0 ∷ 0 ∷ []

pub record Signs : Type 0 where
  pub behind_blanks : sign_at (code "(") (bytes "  (3") 0 ≡ Ok 3
  pub other : sign_at (code ")") (bytes "  (3") 0 ≡ Refused 2 2
  pub at_the_end : sign_at (code ",") (bytes "pool(1,  ") 7 ≡ Refused 2 9
  pub assign : assign_at (bytes "d0:=1") 2 ≡ Ok 4
  pub parted : assign_at (bytes "d0: =1") 2 ≡ Refused 2 2
  pub end : end_at (bytes "a \n") 1 ≡ Ok 3
  pub more : end_at (bytes "a b") 1 ≡ Refused 2 2

pub signs : Signs
unfolding if◌then◌or_else◌ among between is_blank is_sign is_digit is_letter is_word past token_of token_here token_at if_sign if_assign if_end sign_at assign_at end_at
signs = record { behind_blanks = refl; other = refl; at_the_end = refl; assign = refl; parted = refl; end = refl; more = refl }

pub record Numbers : Type 0 where
  pub within : number 1 48 3 (bytes " 48,") 0 none ≡ passed_to 3 (0 ∷ 0 ∷ 0 ∷ 48 ∷ [])
  pub above : number 1 48 3 (bytes " 49#") 0 none ≡ refused_at 3 1 none
  pub below : number 1 48 3 (bytes " 0,") 0 none ≡ refused_at 3 1 none
  pub too_large : number 1 48 3 (bytes " 99999999,") 0 none ≡ refused_at 3 1 none
  pub leading_zero_lem : number 1 48 3 (bytes " 01,") 0 none ≡ refused_at 2 1 none
  pub word : number 1 48 3 (bytes " 1a,") 0 none ≡ refused_at 2 1 none
  pub a_sign : number 1 48 3 (bytes " ,1") 0 none ≡ refused_at 2 1 none
  pub a_field : field 3 (bytes "?d15>") 1 none ≡ passed_to 4 (0 ∷ 0 ∷ 0 ∷ 15 ∷ [])
  pub field_above : field 3 (bytes "?d16>") 1 none ≡ refused_at 3 1 none
  pub field_zero : field 3 (bytes "?d01>") 1 none ≡ refused_at 2 1 none
  pub a_store : field 3 (bytes "?s15>") 1 none ≡ passed_to 4 (0 ∷ 0 ∷ 0 ∷ 31 ∷ [])
  pub store_above : field 3 (bytes "?s16>") 1 none ≡ refused_at 3 1 none
  pub store_zero : field 3 (bytes "?s01>") 1 none ≡ refused_at 2 1 none
  pub store_capital : field 3 (bytes "?S1>") 1 none ≡ refused_at 2 1 none
  pub store_alone : field 3 (bytes "?s>") 1 none ≡ refused_at 2 1 none
  pub no_field : field 3 (bytes "?7>") 1 none ≡ refused_at 2 1 none
  pub operand_number_lem : operand 2 (bytes "7=") 0 none ≡ passed_to 1 (0 ∷ 0 ∷ 0 ∷ 7 ∷ [])
  pub operand_field : operand 2 (bytes "d7=") 0 none ≡ passed_to 2 (0 ∷ 0 ∷ 1 ∷ 7 ∷ [])
  pub operand_store : operand 2 (bytes "s3=") 0 none ≡ passed_to 2 (0 ∷ 0 ∷ 1 ∷ 19 ∷ [])
  pub operand_store_above : operand 2 (bytes "s16=") 0 none ≡ refused_at 3 0 none
  pub operand_last : operand 2 (bytes "4294967295=") 0 none ≡ passed_to 10 (0 ∷ 0 ∷ 0 ∷ 4294967295 ∷ [])
  pub operand_above : operand 2 (bytes "4294967296=") 0 none ≡ refused_at 3 0 none
  pub no_operand : operand 2 (bytes "true=") 0 none ≡ refused_at 2 0 none

pub numbers : Numbers
unfolding if◌then◌or_else◌ among between is_blank is_sign is_digit is_letter is_word past token_of token_here token_at if_word value_from leading_zero number_of is_field_letter field_behind field_from field_of as_number as_field operand_of keep_number number field keep_operand operand
numbers = record {
  within = refl;
  above = refl;
  below = refl;
  too_large = refl;
  leading_zero_lem = refl;
  word = refl;
  a_sign = refl;
  a_field = refl;
  field_above = refl;
  field_zero = refl;
  a_store = refl;
  store_above = refl;
  store_zero = refl;
  store_capital = refl;
  store_alone = refl;
  no_field = refl;
  operand_number_lem = refl;
  operand_field = refl;
  operand_store = refl;
  operand_store_above = refl;
  operand_last = refl;
  operand_above = refl;
  no_operand = refl;
}

pub record Modes : Type 0 where
  pub atomic : mode (bytes "a,") 0 none ≡ passed_to 1 (0 ∷ 0 ∷ 1 ∷ 0 ∷ [])
  pub concurrent : mode (bytes "na_c,") 0 none ≡ passed_to 4 (0 ∷ 0 ∷ 2 ∷ 0 ∷ [])
  pub not_concurrent : mode (bytes "na_nc,") 0 none ≡ passed_to 5 (0 ∷ 0 ∷ 3 ∷ 0 ∷ [])
  pub longer : mode (bytes "na_cn,") 0 none ≡ refused_at 2 0 none

pub modes : Modes
unfolding if◌then◌or_else◌ among between is_blank is_sign is_digit is_letter is_word past token_of token_here token_at if_word same_bytes mode_named keep_mode mode
modes = record { atomic = refl; concurrent = refl; not_concurrent = refl; longer = refl }

pub record Starts : Type 0 where
  pub number_above : starts_number (bytes ",99999999") 1 ≡ true
  pub zeros : starts_number (bytes ",00") 1 ≡ false
  pub field_above : starts_field (bytes ",d16") 1 ≡ true
  pub store_above : starts_field (bytes ",s16") 1 ≡ true
  pub no_field : starts_field (bytes ",7") 1 ≡ false
  pub bracket : starts_sign (code "(") (bytes ", (") 1 ≡ true
  pub other : starts_sign (code "(") (bytes ", )") 1 ≡ false

pub starts : Starts
unfolding if◌then◌or_else◌ among between is_blank is_sign is_digit is_letter is_word past token_of token_here token_at if_word if_sign value_from leading_zero number_of field_behind field_from field_of is_spelled starts_number starts_field starts_sign
starts = record { number_above = refl; zeros = refl; field_above = refl; store_above = refl; no_field = refl; bracket = refl; other = refl }

-- the leftmost place decides, and words stored before it stay
pub record Chains : Type 0 where
  pub good : (sign (code "(") then number 1 48 3 then sign (code ")")) (bytes "( 7 )") 0 none ≡ passed_to 5 (0 ∷ 0 ∷ 0 ∷ 7 ∷ [])
  pub first : (sign (code "(") then number 1 48 3 then sign (code ")")) (bytes "49)") 0 none ≡ refused_at 2 0 none
  pub second : (sign (code "(") then number 1 48 3 then sign (code ")")) (bytes "(49(") 0 none ≡ refused_at 3 1 none
  pub third : (sign (code "(") then number 1 48 3 then sign (code ")")) (bytes "(48(") 0 none ≡ refused_at 2 3 (0 ∷ 0 ∷ 0 ∷ 48 ∷ [])

pub chains : Chains
unfolding if◌then◌or_else◌ among between is_blank is_sign is_digit is_letter is_word past token_of token_here token_at if_word if_sign value_from leading_zero number_of if_at onward ◌then◌ sign_at keep_number number
chains = record { good = refl; first = refl; second = refl; third = refl }
