-- What stands at a place of a text: its bytes, its parts and what stands behind it. Assumes nothing.
use mathlib.Core.Path.{◌≡◌, ◌∙◌, sym, ap}
use mathlib.Core.List.{List, [], ◌∷◌, ◌++◌}
use Prim.Native.Nat.{ℕ, ◌+◌, ◌-◌, ◌<◌, ◌≤◌}
use native.Mathlib.Omega.{arith}
use native.Mathlib.Nat.{add-zero}
use lib.ListN.{length, take, drop, length-drop, length-append, get_or-append}
use lib.Seq.{get_or-drop, drop-drop, drop-append-le, take-append-le, drop-append_seam, take-append_seam}
use borrow.Author.Tests.{lt-ltb}
use Rattle.base_words.specs.Pick.{if◌then◌or_else◌}
use Rattle.base_words.specs.Words.{at, part}
use Rattle.base_bytes.proofs.PieceLaws.{by_order}
use Rattle.xml_markup.specs.Spans.{after}

none : (n : ℕ) (l : List ℕ) → n ≡ 0 → take n l ≡ []
none n l e = rw e

module _ (t w x : List ℕ) (p : ℕ) (stands : drop p t ≡ w ++ x) where
  pub inside : (i : ℕ) → i < length w → p + i < length t
  inside i h = omega (arith, length-drop p t, ap length stands, length-append w x)

  pub byte : (i : ℕ) → i < length w → at t (p + i) ≡ at w i
  byte i h = sym (get_or-drop p t i 0) ∙ ap (λ (l : List ℕ). at l i) stands ∙ get_or-append w x 0 i h

  pub piece : (i j : ℕ) → j ≤ length w → part t (p + i) (p + j) ≡ part w i j
  piece i j k =
      by_order i j
      (λ h.
      ap (λ (n : ℕ). take n (drop (p + i) t)) (let e : p + j - (p + i) ≡ j - i = omega arith in e)
      ∙ ap (take (j - i)) (sym (drop-drop i p t) ∙ ap (drop i) stands ∙ drop-append-le i w x (omega arith))
      ∙ take-append-le (j - i) (drop i w) x (omega (arith, length-drop i w)))
      (λ h. none (p + j - (p + i)) (drop (p + i) t) (omega arith) ∙ sym (none (j - i) (drop i w) (omega arith)))

  pub behind : drop (p + length w) t ≡ x
  behind = sym (drop-drop (length w) p t) ∙ ap (drop (length w)) stands ∙ drop-append_seam w x

  pub whole_part : part t p (p + length w) ≡ w
  whole_part =
      ap (λ (n : ℕ). take n (drop p t)) (let e : p + length w - p ≡ length w = omega arith in e)
      ∙ ap (take (length w)) stands
      ∙ take-append_seam w x

module _ (t s : List ℕ) (b p : ℕ) (stands : drop p t ≡ b ∷ s) where
  pub within : p < length t
  within = omega (arith, length-drop p t, ap length stands)

  pub first : at t p ≡ b
  first = ap (at t) (sym (add-zero p)) ∙ sym (get_or-drop p t 0 0) ∙ ap (λ (l : List ℕ). at l 0) stands

  pub rest : drop (p + 1) t ≡ s
  rest = sym (drop-drop 1 p t) ∙ ap (drop 1) stands

  pub after_is : after t p ≡ p + 1
  unfolding after if◌then◌or_else◌
  after_is = rw (lt-ltb p (length t) within)
