-- Blanks and letters of document 01 by those of XML, byte by byte. Assumes nothing.
use mathlib.Core.Path.{◌≡◌, ◌∙◌, refl, sym}
use mathlib.Core.Bool.{Bool, true, false}
use Prim.Native.Nat.{ℕ, ◌<◌, ◌≤◌}
use lib.Dec.{leb, eqb}
use borrow.Author.Tests.{eq-eqb, ne_eqb, le-leb, lt-leb}
use Rattle.base_words.specs.Pick.{if◌then◌or_else◌}
use Rattle.base_words.specs.All.{all}
use Rattle.base_words.proofs.AllLaws.{all_at}
use Rattle.base_words.proofs.PickLaws.{pick_yes, pick_no}
use Rattle.text_lexer.specs.Lexer.{is_blank, is_word}
use Rattle.base_bytes.specs.Bytes.{among, between, is_digit, is_letter}
use Rattle.xml_characters.specs.Names.{is_blank as isXmlBlank, begins_name}

same : Bool → Bool → Bool
same true b = b
same false b = if b then false or_else true

same_is : (a b : Bool) → same a b ≡ true → a ≡ b
unfolding same if◌then◌or_else◌
same_is true b e = sym e
same_is false true e = e
same_is false false e = refl

abbrev blank : ℕ → Bool
blank b = if eqb b 13 then false or_else isXmlBlank b

abbrev letter : ℕ → Bool
letter b = if eqb b 58 then false or_else if leb 128 b then false or_else if is_digit b then true or_else begins_name b

blank_is : (b : ℕ) → b < 256 → blank b ≡ is_blank b
unfolding all same if◌then◌or_else◌ among is_blank isXmlBlank
blank_is b h = same_is (blank b) (is_blank b) (all_at (λ k. same (blank k) (is_blank k)) 256 refl b h)

letter_is : (b : ℕ) → b < 256 → letter b ≡ is_word b
unfolding all same if◌then◌or_else◌ between is_digit is_letter is_word begins_name
letter_is b h = same_is (letter b) (is_word b) (all_at (λ k. same (letter k) (is_word k)) 256 refl b h)

module _ (b : ℕ) (h : b < 256) where
  pub blank_return : b ≡ 13 → false ≡ is_blank b
  blank_return e = pick_yes _ _ _ (isXmlBlank b) (eq-eqb b 13 e) refl ∙ blank_is b h

  pub blank_other : (b ≡ 13 → ⊥) → (r : Bool) → r ≡ isXmlBlank b → r ≡ is_blank b
  blank_other n r e = pick_no _ _ false _ (ne_eqb b 13 n) e ∙ blank_is b h

  pub word_colon : b ≡ 58 → false ≡ is_word b
  word_colon e = pick_yes _ _ _ (if leb 128 b then false or_else if is_digit b then true or_else begins_name b) (eq-eqb b 58 e) refl ∙ letter_is b h

  pub word_above : (b ≡ 58 → ⊥) → 128 ≤ b → false ≡ is_word b
  word_above n l = pick_no _ _ false _ (ne_eqb b 58 n) (pick_yes _ _ _ (if is_digit b then true or_else begins_name b) (le-leb 128 b l) refl) ∙ letter_is b h

  pub word_digit : (b ≡ 58 → ⊥) → b < 128 → is_digit b ≡ true → true ≡ is_word b
  word_digit n l d = pick_no _ _ false _ (ne_eqb b 58 n) (pick_no _ _ false _ (lt-leb 128 b l) (pick_yes _ _ _ (begins_name b) d refl)) ∙ letter_is b h

  pub word_letter : (b ≡ 58 → ⊥) → b < 128 → is_digit b ≡ false → (r : Bool) → r ≡ begins_name b → r ≡ is_word b
  word_letter n l d r e = pick_no _ _ false _ (ne_eqb b 58 n) (pick_no _ _ false _ (lt-leb 128 b l) (pick_no _ _ true _ d e)) ∙ letter_is b h
