-- Words in what is said, byte by byte, as the loops go. Assumes nothing.
use mathlib.Core.Path.{◌≡◌, ◌∙◌, refl, sym, ap}
use mathlib.Core.Bool.{Bool, true, false, not, ◌&&◌, false≢true}
use mathlib.Core.List.{List, [], ◌∷◌}
use Prim.Native.Nat.{ℕ, suc, ◌+◌, ◌*◌, ◌-◌, ◌<◌, ◌≤◌}
use native.Mathlib.Numerals.{add-one}
use native.Mathlib.Omega.{arith}
use lib.Dec.{ltb, eqb}
use lib.ListN.{length, drop, drop_of_length-le}
use lib.Seq.{drop-cons}
use borrow.Author.Tests.{eq-eqb, ne_eqb, le-leb, lt-leb, lt-ltb}
use Rattle.base_words.specs.Pick.{if◌then◌or_else◌}
use Rattle.base_words.specs.Words.{at, greatest}
use Rattle.text_lexer.specs.Lexer.{is_word}
use Rattle.base_bytes.specs.Bytes.{is_digit}
use Rattle.base_bytes.proofs.PieceLaws.{by_order}
use Rattle.text_numerals.specs.declared.Number.{Number}
use Rattle.text_numerals.specs.declared.Number.TheVariants.{NotANumber}
use Rattle.text_numerals.specs.Numerals.{value_from, leading_zero, number_of, is_field_letter, field_from, field_of, as_number, as_field, operand_of}
use Rattle.base_bytes.specs.Bytes.{same_bytes}
use Rattle.text_numerals.proofs.NumberLaws.{value_large}
use Rattle.text_numerals.proofs.NumeralLaws.{letter_word}
use Rattle.draw_conditions.specs.declared.saying.Spot.{Spot}
use Rattle.draw_conditions.specs.declared.saying.Seen.{Seen}
use Rattle.std.proofs.Common.{Option, Some, None}
use Rattle.std.specs.Option.{is_some}
use Rattle.draw_conditions.specs.declared.spelled.Class.{Class}
use Rattle.draw_conditions.specs.declared.spelled.Side.{Side}
use Rattle.draw_conditions.specs.Saying.{says, said, seen}
use Rattle.draw_conditions.specs.Words.{is_of, behind, letters, spelt, goes_on, grown, place_said, is_over, nothing, side, side_of, side_at}

-- the next byte of what is said
module _ (t : List ℕ) (s : Spot) (v : Option Seen) (e : said t s ≡ seen t v) where
  pub over : v ≡ None → said t s ≡ []
  unfolding seen
  over k = e ∙ rw k

  pub is_over_lem : v ≡ None → true ≡ is_over (said t s)
  unfolding is_over
  is_over_lem k = rw (over k)

  pub behind_over : (class : Class) → v ≡ None → said t s ≡ behind class (said t s)
  unfolding behind
  behind_over class k = rw (over k)

  pub letter_over : v ≡ None → letters (said t s) ≡ spelt t None
  unfolding letters spelt
  letter_over k = rw (over k)

  pub side_over : (r : Side) → v ≡ None → r ≡ side false nothing 0 → r ≡ side_at (said t s)
  unfolding side_at side_of letters operand_of is_field_letter number_of as_number if◌then◌or_else◌
  side_over r k h = h ∙ sym (rw (over k))

  module _ (x : Seen) (k : v ≡ Some x) where
    pub byte : said t s ≡ says x.byte x.place ∷ said t x.next
    unfolding seen
    byte = e ∙ rw k

    pub shorter : length (said t x.next) < length (said t s)
    shorter = rw byte (omega arith)

    pub not_over : false ≡ is_over (said t s)
    unfolding is_over
    not_over = rw byte

    pub behind_on : (class : Class) → is_of class x.byte ≡ true → behind class (said t s) ≡ behind class (said t x.next)
    unfolding behind if◌then◌or_else◌
    behind_on class y = rw (byte, y)

    pub behind_here : (class : Class) → is_of class x.byte ≡ false → said t s ≡ behind class (said t s)
    unfolding behind if◌then◌or_else◌
    behind_here class y = rw (byte, y)

    pub letter_yes : is_word x.byte ≡ true → letters (said t s) ≡ spelt t (Some x)
    unfolding letters spelt if◌then◌or_else◌
    letter_yes y = rw (byte, y)

    pub letter_no : is_word x.byte ≡ false → letters (said t s) ≡ spelt t None
    unfolding letters spelt if◌then◌or_else◌
    letter_no y = rw (byte, y)

    -- an operand by its first byte
    pub side_field : (n f : Number) (r : Side) → is_field_letter x.byte ≡ true → n ≡ number_of (letters (said t x.next)) → f ≡ field_from x.byte n → r ≡ side_of (as_field f) x.place → r ≡ side_at (said t s)
    unfolding side_at letters place_said operand_of field_of if◌then◌or_else◌
    side_field n f r y e k h = h ∙ rw (k, e, byte, letter_word x.byte y, y)

    pub side_number : (n : Number) (r : Side) → is_field_letter x.byte ≡ false → n ≡ number_of (letters (said t s)) → r ≡ side_of (as_number n) x.place → r ≡ side_at (said t s)
    side_number n r y f h = h ∙ rw f (sym operand)
      where
        first : (w : Bool) → is_field_letter (at (if w then x.byte ∷ letters (said t x.next) or_else []) 0) ≡ false
        first true = unfold if◌then◌or_else◌ in y
        first false = unfold if◌then◌or_else◌ is_field_letter in refl

        same : is_field_letter (at (letters (said t s)) 0) ≡ false
        same = unfold letters in rw byte (first (is_word x.byte))

        operand : side_at (said t s) ≡ side_of (as_number (number_of (letters (said t s)))) x.place
        operand = unfold side_at operand_of if◌then◌or_else◌ in rw same (ap (side_of (as_number (number_of (letters (said t s))))) (unfold place_said in rw byte))

-- the next byte of a word
module _ (t : List ℕ) (s : Spot) (v : Option Seen) (e : letters (said t s) ≡ spelt t v) where
  pub no_letter : v ≡ None → letters (said t s) ≡ []
  unfolding spelt
  no_letter k = e ∙ rw k

  pub a_letter : (x : Seen) → v ≡ Some x → letters (said t s) ≡ x.byte ∷ letters (said t x.next)
  unfolding spelt
  a_letter x k = e ∙ rw k

-- a word w, by its first byte
pub ends : (w : List ℕ) → w ≡ [] → false ≡ goes_on w
unfolding goes_on
ends w e = rw e

pub goes : (w : List ℕ) (b : ℕ) (u : List ℕ) → w ≡ b ∷ u → true ≡ goes_on w
unfolding goes_on
goes w b u e = rw e

-- whether there is a next byte, as it is told
module _ (t : List ℕ) (s : Spot) where
  pub over_told : (v : Option Seen) (r : Bool) → said t s ≡ seen t v → is_some v ≡ not r → r ≡ is_over (said t s)
  over_told None true e h = is_over_lem t s None e refl
  over_told None false e h = absurd (false≢true h)
  over_told (Some x) true e h = absurd (false≢true (sym h))
  over_told (Some x) false e h = not_over t s (Some x) e x refl

  pub goes_told : (v : Option Seen) (r : Bool) → letters (said t s) ≡ spelt t v → r ≡ is_some v → r ≡ goes_on (letters (said t s))
  goes_told None r e h = h ∙ ends _ (no_letter t s None e refl)
  goes_told (Some x) r e h = h ∙ goes _ _ _ (a_letter t s (Some x) e x refl)

pub fewer : (w : List ℕ) (b : ℕ) (u : List ℕ) → w ≡ b ∷ u → length u < length w
fewer w b u e = rw e (omega arith)

module _ (w word : List ℕ) (k : ℕ) where
  pub same_short : k < length word → w ≡ [] → same_bytes w (drop k word) ≡ false
  unfolding same_bytes
  same_short h e = rw (e, drop-cons word k 0 h)

  pub same_end : length word ≤ k → same_bytes w (drop k word) ≡ not (goes_on w)
  same_end h = rw (drop_of_length-le word h) (by w)
    where
      by : (x : List ℕ) → same_bytes x [] ≡ not (goes_on x)
      by [] = unfold same_bytes goes_on in refl
      by (y ∷ x) = unfold same_bytes goes_on in refl

  module _ (b : ℕ) (u : List ℕ) (e : w ≡ b ∷ u) (h : k < length word) where
    pub same_on : b ≡ at word k → same_bytes w (drop k word) ≡ same_bytes u (drop (k + 1) word)
    unfolding same_bytes
    same_on y = rw (e, drop-cons word k 0 h, eq-eqb b (at word k) y, add-one k)

    pub same_other : (b ≡ at word k → ⊥) → same_bytes w (drop k word) ≡ false
    unfolding same_bytes
    same_other y = rw (e, drop-cons word k 0 h, ne_eqb b (at word k) y)

-- its digits
module _ (w : List ℕ) (v : ℕ) where
  pub value_end : w ≡ [] → value_from v w ≡ value_from v []
  value_end e = rw e

  module _ (b : ℕ) (u : List ℕ) (e : w ≡ b ∷ u) where
    pub value_none : is_digit b ≡ false → value_from v w ≡ NotANumber
    unfolding value_from if◌then◌or_else◌
    value_none y = rw (e, y)

    pub value_on : is_digit b ≡ true → (x : ℕ) → x ≡ grown v b → value_from v w ≡ value_from x u
    value_on y x f = step ∙ by_order v greatest (λ l. rw f (small l)) (λ l. rw f (large l))
      where
        step : value_from v w ≡ value_from (v * 10 + (b - 48)) u
        step = unfold value_from if◌then◌or_else◌ in rw (e, y)

        small : v ≤ greatest → value_from (v * 10 + (b - 48)) u ≡ value_from (grown v b) u
        small l = unfold grown if◌then◌or_else◌ in rw (le-leb v greatest l)

        large : greatest < v → value_from (v * 10 + (b - 48)) u ≡ value_from (grown v b) u
        large l = unfold grown if◌then◌or_else◌ in rw (lt-leb v greatest l) (value_large u (v * 10 + (b - 48)) v (omega arith) l)

-- a number
pub lead_other : (b : ℕ) (u : List ℕ) → (b ≡ 48 → ⊥) → false ≡ leading_zero (b ∷ u)
unfolding leading_zero
lead_other b u n = sym (rw (ne_eqb b 48 n) (and_no (ltb 1 (suc (length u)))))
  where
    and_no : (x : Bool) → x && false ≡ false
    and_no true = refl
    and_no false = refl

pub lead_zero : (b : ℕ) (u : List ℕ) → b ≡ 48 → (r : Bool) → r ≡ goes_on u → r ≡ leading_zero (b ∷ u)
unfolding leading_zero goes_on
lead_zero b [] e r f = f
lead_zero b (x ∷ u) e r f = f ∙ sym (rw (lt-ltb 1 (suc (suc (length u))) (omega arith), e))

module _ (w : List ℕ) where
  pub number_none : w ≡ [] → NotANumber ≡ number_of w
  unfolding number_of if◌then◌or_else◌
  number_none e = rw e

  module _ (b : ℕ) (u : List ℕ) (e : w ≡ b ∷ u) (z : Bool) (ez : z ≡ leading_zero (b ∷ u)) where
    some : eqb (length (b ∷ u)) 0 ≡ false
    some = ne_eqb (length (b ∷ u)) 0 (λ x. omega (arith, x))

    pub number_led : z ≡ true → NotANumber ≡ number_of w
    unfolding number_of if◌then◌or_else◌
    number_led y = rw (e, some, ← ez, y)

    pub number_is : z ≡ false → (r : Number) → r ≡ value_from 0 w → r ≡ number_of w
    unfolding number_of if◌then◌or_else◌
    number_is y r h = h ∙ rw (e, some, ← ez, y)
