-- The words of an element with nothing but its kind. Assumes nothing.
use Prim.Native.Nat.{ℕ, ◌≤◌, ◌<◌}
use mathlib.Core.Path.{◌≡◌, ◌∙◌}
use mathlib.Core.List.{List}
use native.Mathlib.Decide.{dec_lt}
use native.Mathlib.Omega.{arith}
use lib.ListN.{length, replicate, length-set, length-replicate, get_or-replicate, get_or-eq_default}
use lib.Seq.{get_or-set_same, get_or-set_other}
use Rattle.base_words.specs.Words.{at}
use Rattle.base_table.specs.Places.{kind_place, element_words}
use Rattle.text_elements.specs.Elements.{blank}

pub zero_word : (n i : ℕ) → at (replicate n 0) i ≡ 0
zero_word n i = go (dec_lt i n)
  where
    go : Dec (i < n) → at (replicate n 0) i ≡ 0
    go (yes h) = get_or-replicate n i 0 0 h
    go (no h) = get_or-eq_default (replicate n 0) 0 (let z : length {A = ℕ} (replicate n 0) ≤ i = omega (arith, h, length-replicate {A = ℕ} n 0) in z)

module _ (k : ℕ) (x : List ℕ) where
  pub blank_kind : length x ≡ element_words → at (blank k x) kind_place ≡ k
  unfolding blank
  blank_kind l = get_or-set_same (replicate (length x) 0) kind_place k 0 (omega (arith, l, length-replicate {A = ℕ} (length x) 0))

  pub blank-length : length (blank k x) ≡ length x
  unfolding blank
  blank-length = length-set (replicate (length x) 0) kind_place k ∙ length-replicate (length x) 0

  pub blank_zero : (i : ℕ) → (i ≡ kind_place → ⊥) → at (blank k x) i ≡ 0
  unfolding blank
  blank_zero i n = get_or-set_other (replicate (length x) 0) kind_place i k 0 n ∙ zero_word (length x) i
