-- A name's last colon, byte by byte, as its loop goes. Assumes nothing.
use mathlib.Core.Path.{◌≡◌, sym, ap}
use mathlib.Core.List.{List}
use Prim.Native.Nat.{ℕ, ◌+◌, ◌<◌, ◌≤◌}
use native.Mathlib.Numerals.{add-one}
use lib.ListN.{length, drop, drop_of_length-le}
use lib.Seq.{drop-cons}
use Rattle.base_words.specs.Words.{at}
use Rattle.xml_markup.specs.Spans.{behind_colon, local_from}

pub local_on : (w : List ℕ) (i r u : ℕ) → i < length w → u ≡ behind_colon (at w i) (i + 1) r → local_from (drop i w) i r ≡ local_from (drop (i + 1) w) (i + 1) u
unfolding local_from
local_on w i r u h e = rw (drop-cons w i 0 h, e) (ap (λ (k : ℕ). local_from (drop k w) (i + 1) (behind_colon (at w i) (i + 1) r)) (sym (add-one i)))

pub local_end : (w : List ℕ) (i r : ℕ) → length w ≤ i → local_from (drop i w) i r ≡ r
unfolding local_from
local_end w i r h = rw (drop_of_length-le w h)
