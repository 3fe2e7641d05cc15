-- Numbers of one digit to ten, and a buffer shorter and one longer than the longest, each computed.
use mathlib.Core.Path.{◌≡◌, refl}
use mathlib.Core.List.{[]}
use native.Mathlib.Omega.{arith}
use Rattle.base_words.specs.Text.{bytes}
use Rattle.base_words.specs.Words.{greatest, digits}
use Rattle.base_words.specs.Pick.{if◌then◌or_else◌}
use Rattle.write_buffer.specs.Buffers.{next, end_written, over_from, Put}
use Rattle.write_decimals.specs.Decimals.{shown, shown_from}

pub record Texts : Type 0 where
  pub zero : shown 0 ≡ bytes "0"
  pub nine : shown 9 ≡ bytes "9"
  pub ten : shown 10 ≡ bytes "10"
  pub two_nines : shown 99 ≡ bytes "99"
  pub hundred : shown 100 ≡ bytes "100"
  pub of_sixteen_bits : shown 65535 ≡ bytes "65535"
  pub of_the_greatest : shown greatest ≡ bytes "4294967295"

pub texts : Texts
unfolding shown shown_from if◌then◌or_else◌
texts = record { zero = refl; nine = refl; ten = refl; two_nines = refl; hundred = refl; of_sixteen_bits = refl; of_the_greatest = refl }

-- its first digits are there, and the whole length is returned
pub in_three : Put (shown greatest) digits 0 (bytes "...") 10 (bytes "429")
unfolding shown shown_from if◌then◌or_else◌ next end_written over_from
in_three = record { short = omega arith; place = refl; text = refl }

-- the last two bytes stay
pub in_twelve : Put (shown greatest) digits 0 (bytes "............") 10 (bytes "4294967295..")
unfolding shown shown_from if◌then◌or_else◌ next end_written over_from
in_twelve = record { short = omega arith; place = refl; text = refl }

-- nothing is written, and the length is returned
pub in_none : Put (shown 0) digits 0 [] 1 []
unfolding shown shown_from if◌then◌or_else◌ next end_written over_from
in_none = record { short = omega arith; place = refl; text = refl }
