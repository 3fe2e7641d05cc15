-- Numbers of characters, digit by digit, as the loop goes. Assumes nothing.
use mathlib.Core.Path.{◌≡◌}
use mathlib.Core.Bool.{Bool}
use mathlib.Core.List.{List}
use Prim.Native.Nat.{ℕ, ◌+◌, ◌<◌, ◌≤◌}
use native.Mathlib.Numerals.{add-one}
use lib.ListN.{length, drop, drop_of_length-le}
use lib.Seq.{drop-cons}
use borrow.Author.Tests.{lt-ltb, le-ltb}
use Rattle.base_words.specs.Pick.{if◌then◌or_else◌}
use Rattle.base_words.specs.Words.{at}
use Rattle.xml_characters.specs.References.{digit, base, more, number_from}

-- the digit d at the place i of a word
module _ (w : List ℕ) (hex : Bool) (v i d b : ℕ) (h : i < length w) (ed : d ≡ digit (at w i)) (eb : b ≡ base hex) where
  pub number_on : d < b → (u : ℕ) → u ≡ more hex v d → number_from hex v (drop i w) ≡ number_from hex u (drop (i + 1) w)
  unfolding number_from if◌then◌or_else◌
  number_on l u eu = rw (drop-cons w i 0 h, add-one i, ← ed, ← eb, lt-ltb d b l, eu)

  pub number_none : b ≤ d → number_from hex v (drop i w) ≡ 0
  unfolding number_from if◌then◌or_else◌
  number_none l = rw (drop-cons w i 0 h, ← ed, ← eb, le-ltb d b l)

pub number_end : (w : List ℕ) (hex : Bool) (v i : ℕ) → length w ≤ i → number_from hex v (drop i w) ≡ v
unfolding number_from
number_end w hex v i h = rw (drop_of_length-le w h)
