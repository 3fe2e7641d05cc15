-- Character data, byte by byte, as its loop goes. Assumes nothing.
use mathlib.Core.Path.{◌≡◌, ◌∙◌, refl, sym, ap}
use mathlib.Core.Bool.{true, false}
use mathlib.Core.List.{List, [], ◌∷◌}
use Prim.Native.Nat.{ℕ, zero, suc, ◌+◌, ◌-◌, ◌<◌, ◌≤◌}
use native.Mathlib.Nat.{add-zero}
use native.Mathlib.Numerals.{add-one}
use native.Mathlib.Omega.{arith}
use lib.ListN.{length, take, drop, drop_of_length-le}
use lib.Seq.{drop-cons, get_or-drop}
use borrow.Author.Tests.{ne_eqb}
use Rattle.base_words.specs.Pick.{if◌then◌or_else◌}
use Rattle.base_words.specs.Words.{at, part}
use Rattle.base_bytes.specs.Bytes.{same_bytes}
use Rattle.xml_scanner.specs.declared.Sort.TheVariants.{Text}
use Rattle.xml_markup.specs.declared.Scan.TheVariants.{Past, Fault}
use Rattle.xml_characters.specs.Names.{is_control}
use Rattle.xml_markup.specs.Markup.{opens_markup, begins_at, closes_data, text_from}

-- what closes a section begins with its first byte
first_of : (n : ℕ) (y : List ℕ) → at (take n y) 0 ≡ 93 → at y 0 ≡ 93
first_of zero y e = absurd (omega (arith, e))
first_of (suc n) [] e = e
first_of (suc n) (b ∷ y) e = e

not_first : (x : List ℕ) → (at x 0 ≡ 93 → ⊥) → false ≡ same_bytes (part x 0 3) (93 ∷ 93 ∷ 62 ∷ [])
unfolding same_bytes
not_first [] n = refl
not_first (b ∷ x) n = rw (ne_eqb b 93 n) refl

pub data_not : (t : List ℕ) (i b : ℕ) → b ≡ at t i → (b ≡ 93 → ⊥) → false ≡ closes_data t i
unfolding closes_data begins_at
data_not t i b e n = not_first (part t i (length t)) (λ f. n (e ∙ (ap (at t) (sym (add-zero i)) ∙ sym (get_or-drop i t 0 0)) ∙ first_of (length t - i) (drop i t) f))

module _ (t : List ℕ) (i : ℕ) (h : i < length t) where
  pub text_stops : opens_markup (at t i) ≡ true → text_from t (drop i t) i ≡ Past Text i
  unfolding text_from if◌then◌or_else◌
  text_stops e = rw (drop-cons t i 0 h, e)

  module _ (e : opens_markup (at t i) ≡ false) where
    pub text_control : is_control (at t i) ≡ true → text_from t (drop i t) i ≡ Fault i
    unfolding text_from if◌then◌or_else◌
    text_control f = rw (drop-cons t i 0 h, e, f)

    module _ (f : is_control (at t i) ≡ false) where
      pub text_data : closes_data t i ≡ true → text_from t (drop i t) i ≡ Fault i
      unfolding text_from if◌then◌or_else◌
      text_data g = rw (drop-cons t i 0 h, e, f, g)

      pub text_on : closes_data t i ≡ false → text_from t (drop i t) i ≡ text_from t (drop (i + 1) t) (i + 1)
      unfolding text_from if◌then◌or_else◌
      text_on g = rw (drop-cons t i 0 h, add-one i, e, f, g)

pub text_end : (t : List ℕ) (i : ℕ) → length t ≤ i → text_from t (drop i t) i ≡ Past Text i
unfolding text_from
text_end t i h = rw (drop_of_length-le t h)
