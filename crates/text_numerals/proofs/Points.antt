-- Numbers and operands tried on words. Assumes nothing.
use mathlib.Core.Path.{◌≡◌, refl}
use mathlib.Core.Bool.{true, false}
use Rattle.base_words.specs.Pick.{if◌then◌or_else◌}
use Rattle.base_words.specs.Text.{bytes}
use Rattle.base_bytes.specs.Bytes.{between, is_digit}
use Rattle.text_numerals.specs.declared.Number.TheVariants.{Value, TooLarge, NotANumber}
use Rattle.text_numerals.specs.declared.Operand.TheVariants.{Number as Constant, Field, OutOfRange, NotAnOperand}
use Rattle.text_numerals.specs.Numerals.{value_from, leading_zero, number_of, is_field_letter, field_behind, field_from, field_of, as_number, as_field, operand_of}
use Rattle.base_bytes.specs.Bytes.{same_bytes}

pub record Numbers : Type 0 where
  pub zero : number_of (bytes "0") ≡ Value 0
  pub inner : number_of (bytes "65536") ≡ Value 65536
  pub greatest : number_of (bytes "4294967295") ≡ Value 4294967295
  pub above : number_of (bytes "4294967296") ≡ TooLarge
  pub no_wrap : number_of (bytes "4294967297") ≡ TooLarge
  pub no_wider_wrap : number_of (bytes "18446744073709551617") ≡ TooLarge
  pub far_above : number_of (bytes "99999999999999999999999999") ≡ TooLarge
  pub leading_zeros : number_of (bytes "007") ≡ NotANumber
  pub two_zeros : number_of (bytes "00") ≡ NotANumber
  pub letter_behind : number_of (bytes "12a") ≡ NotANumber
  pub letter_far_behind : number_of (bytes "99999999999999999999999999a") ≡ NotANumber
  pub empty : number_of (bytes "") ≡ NotANumber

pub numbers : Numbers
unfolding if◌then◌or_else◌ between is_digit value_from leading_zero number_of
numbers = record {
  zero = refl;
  inner = refl;
  greatest = refl;
  above = refl;
  no_wrap = refl;
  no_wider_wrap = refl;
  far_above = refl;
  leading_zeros = refl;
  two_zeros = refl;
  letter_behind = refl;
  letter_far_behind = refl;
  empty = refl;
}

pub record Operands : Type 0 where
  pub inner : operand_of (bytes "65536") ≡ Constant 65536
  pub number : operand_of (bytes "4294967295") ≡ Constant 4294967295
  pub number_above : operand_of (bytes "4294967296") ≡ OutOfRange
  pub leading_zeros : operand_of (bytes "007") ≡ NotAnOperand
  pub first_field : operand_of (bytes "d0") ≡ Field 0
  pub last_field : operand_of (bytes "d15") ≡ Field 15
  pub field_above : operand_of (bytes "d16") ≡ OutOfRange
  pub no_wrap : operand_of (bytes "d256") ≡ OutOfRange
  pub greatest_field : operand_of (bytes "d4294967295") ≡ OutOfRange
  pub far_above : operand_of (bytes "d99999999999") ≡ OutOfRange
  pub field_zero : operand_of (bytes "d01") ≡ NotAnOperand
  pub first_store : operand_of (bytes "s0") ≡ Field 16
  pub last_store : operand_of (bytes "s15") ≡ Field 31
  pub store_above : operand_of (bytes "s16") ≡ OutOfRange
  pub store_far_above : operand_of (bytes "s99999999999") ≡ OutOfRange
  pub store_zero : operand_of (bytes "s01") ≡ NotAnOperand
  pub store_alone : operand_of (bytes "s") ≡ NotAnOperand
  pub store_capital : operand_of (bytes "S1") ≡ NotAnOperand
  pub letter_alone : operand_of (bytes "d") ≡ NotAnOperand
  pub two_letters : operand_of (bytes "dx") ≡ NotAnOperand
  pub capital : operand_of (bytes "D1") ≡ NotAnOperand
  pub empty : operand_of (bytes "") ≡ NotAnOperand

pub operands : Operands
unfolding if◌then◌or_else◌ between is_digit value_from leading_zero number_of is_field_letter field_behind field_from field_of as_number as_field operand_of
operands = record {
  inner = refl;
  number = refl;
  number_above = refl;
  leading_zeros = refl;
  first_field = refl;
  last_field = refl;
  field_above = refl;
  no_wrap = refl;
  greatest_field = refl;
  far_above = refl;
  field_zero = refl;
  first_store = refl;
  last_store = refl;
  store_above = refl;
  store_far_above = refl;
  store_zero = refl;
  store_alone = refl;
  store_capital = refl;
  letter_alone = refl;
  two_letters = refl;
  capital = refl;
  empty = refl;
}

pub record Words : Type 0 where
  pub whole : same_bytes (bytes "start") (bytes "start") ≡ true
  pub longer : same_bytes (bytes "startRcv") (bytes "start") ≡ false
  pub shorter : same_bytes (bytes "na_c") (bytes "na_nc") ≡ false
  pub letter_case : same_bytes (bytes "Start") (bytes "start") ≡ false

pub words : Words
unfolding same_bytes
words = record { whole = refl; longer = refl; shorter = refl; letter_case = refl }
