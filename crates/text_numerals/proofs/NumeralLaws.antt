-- A word at a place of a text, taken digit by digit: as a number, and as an operand. Assumes nothing.
use mathlib.Core.Path.{◌≡◌, ◌∙◌, refl, sym, ap, ap₂, subst}
use mathlib.Core.Bool.{Bool, true, false, ◌||◌}
use mathlib.Core.List.{List, [], ◌∷◌, ◌++◌}
use Prim.Native.Nat.{ℕ, zero, suc, ◌+◌, ◌-◌, ◌*◌, ◌<◌, ◌≤◌, max}
use native.Mathlib.Nat.{add-zero}
use native.Mathlib.Numerals.{add-one}
use native.Mathlib.Omega.{arith}
use lib.Dec.{leb, eqb}
use lib.ListN.{length, take, drop, length-drop, drop_of_length-le}
use lib.Seq.{drop-cons, get_or-drop, drop-drop, drop-append_seam, take-append_seam, take_all}
use borrow.Author.Tests.{eqb-true, leb-false}
use Rattle.base_words.specs.Each.{each}
use Rattle.base_words.specs.Pick.{if◌then◌or_else◌}
use Rattle.base_words.specs.Words.{at, part, greatest}
use Rattle.base_words.proofs.AllLaws.{and_left, and_right}
use Rattle.base_words.proofs.PickLaws.{and_true}
use Rattle.text_lexer.specs.Lexer.{is_word}
use Rattle.base_bytes.specs.Bytes.{past, is_digit, is_letter, between}
use Rattle.base_bytes.proofs.OrLaws.{or_second}
use Rattle.base_bytes.proofs.PastLaws.{past_more, past_end, past_from}
use Rattle.base_bytes.proofs.PieceLaws.{by_order}
use Rattle.text_numerals.specs.declared.Decimal.{Decimal}
use Rattle.text_numerals.specs.declared.Number.{Number}
use Rattle.text_numerals.specs.declared.Number.TheVariants.{NotANumber}
use Rattle.text_numerals.specs.declared.Numeral.{Numeral}
use Rattle.text_numerals.specs.declared.Operand.{Operand}
use Rattle.text_numerals.specs.declared.Operand.TheVariants.{NotAnOperand}
use Rattle.text_numerals.specs.Numerals.{value_from, leading_zero, number_of, is_field_letter, field_from, field_of, as_number, as_field, operand_of, grown, digits_from, number_by, word_end, numeral_at, operand_at}
use Rattle.text_numerals.proofs.NumberLaws.{value_large}

digit_word : (d : ℕ) → is_digit d ≡ true → is_word d ≡ true
unfolding is_word
digit_word d e = sym (or_second (is_letter d) (is_digit d) (eqb d 95) e)

-- THE LOOP that takes digits: what is left of the text from the place i on, the whole being w
module _ (t : List ℕ) (v i : ℕ) (w : Decimal) (inv : digits_from v (drop i t) i ≡ w) where
  pub digits_end : length t ≤ i → record { value = v; end = i } ≡ w
  unfolding digits_from
  digits_end h = sym (ap (λ s. digits_from v s i) (drop_of_length-le t h)) ∙ inv

  pub digits_stop : i < length t → is_digit (at t i) ≡ false → record { value = v; end = i } ≡ w
  unfolding digits_from if◌then◌or_else◌
  digits_stop h e = sym (rw (drop-cons t i 0 h, e)) ∙ inv

  pub digits_more : (u : ℕ) → i < length t → is_digit (at t i) ≡ true → u ≡ grown v (at t i) → digits_from u (drop (i + 1) t) (i + 1) ≡ w
  unfolding digits_from if◌then◌or_else◌
  digits_more u h e g = ap (λ z. digits_from z (drop (i + 1) t) (i + 1)) g ∙ sym (rw (drop-cons t i 0 h, e, add-one i)) ∙ inv

-- the end of the text, or the place itself beyond it, where the loop has come to i
pub digits_farthest : (t : List ℕ) (from v i m : ℕ) → digits_from v (drop i t) i ≡ digits_from 0 (drop from t) from → length t ≤ i → (from ≤ length t → i ≤ length t) → m ≡ max from (length t) → ◌≡◌ {A = Decimal} (record { value = v; end = m }) (digits_from 0 (drop from t) from)
digits_farthest t from v i m e l far g = ap (λ (z : ℕ). record { value = v; end = z }) same ∙ digits_end t v i _ e l
  where
    same : m ≡ i
    same =
        by_order (length t) from
        (λ h. let k : i ≡ from = ap (λ (d : Decimal). d.end) (digits_end t v i _ e l ∙ sym (digits_end t 0 from _ refl h)) in omega arith)
        (λ h. let k : i ≤ length t = far (omega arith) in omega arith)

-- WHERE DIGITS END: ds are they, r is what is left behind them
pub record Split (v : ℕ) (s : List ℕ) (p : ℕ) (d : Decimal) : Type 0 where
  pub ds : List ℕ
  pub r : List ℕ
  pub whole : s ≡ ds ++ r
  pub digits : each is_digit ds ≡ true
  pub last : is_digit (at r 0) ≡ false
  pub end : d.end ≡ p + length ds
  pub value : value_from v ds ≡ value_from d.value []

value_grown : (v d : ℕ) (w : List ℕ) → value_from (v * 10 + (d - 48)) w ≡ value_from (grown v d) w
unfolding grown if◌then◌or_else◌
value_grown v d w = go (leb v greatest) refl
  where
    go : (b : Bool) → leb v greatest ≡ b → value_from (v * 10 + (d - 48)) w ≡ value_from (if b then v * 10 + (d - 48) or_else v) w
    go true e = refl
    go false e = let l = leb-false v greatest e in value_large w (v * 10 + (d - 48)) v (omega (arith, l)) l

value_first : (v d : ℕ) (w : List ℕ) → is_digit d ≡ true → value_from v (d ∷ w) ≡ value_from (v * 10 + (d - 48)) w
unfolding value_from if◌then◌or_else◌
value_first v d w e = rw e

pub split : (v : ℕ) (s : List ℕ) (p : ℕ) → Split v s p (digits_from v s p)
unfolding digits_from each is_digit between if◌then◌or_else◌
split v [] p = record { ds = []; r = []; whole = refl; digits = refl; last = refl; end = sym (add-zero p); value = refl }
split v (d ∷ s) p = go (is_digit d) refl (split (grown v d) s (p + 1))
  where
    go : (b : Bool) → is_digit d ≡ b → Split (grown v d) s (p + 1) (digits_from (grown v d) s (p + 1)) → Split v (d ∷ s) p (if b then digits_from (grown v d) s (p + 1) or_else record { value = v; end = p })
    go true e k = record {
      ds = d ∷ k.ds;
      r = k.r;
      whole = ap (λ z. d ∷ z) k.whole;
      digits = and_true (is_digit d) (each is_digit k.ds) e k.digits;
      last = k.last;
      end = k.end ∙ (let z : p + 1 + length k.ds ≡ p + suc (length k.ds) = omega arith in z);
      value = value_first v d k.ds e ∙ value_grown v d k.ds ∙ k.value;
    }
    go false e k = record { ds = []; r = d ∷ s; whole = refl; digits = refl; last = e; end = sym (add-zero p); value = refl }

-- digits are letters of a word
past_digits : (ds r : List ℕ) (p : ℕ) → each is_digit ds ≡ true → past is_word (ds ++ r) p ≡ past is_word r (p + length ds)
unfolding past each if◌then◌or_else◌
past_digits [] r p h = ap (past is_word r) (sym (add-zero p))
past_digits (d ∷ ds) r p h =
    rw (digit_word d (and_left (is_digit d) (each is_digit ds) h))
    (past_digits ds r (p + 1) (and_right (is_digit d) (each is_digit ds) h)
    ∙ (let z : p + 1 + length ds ≡ p + suc (length ds) = omega arith in ap (past is_word r) z))

-- with another letter behind them they are no number
no_value : (ds r : List ℕ) (v m c : ℕ) → c ≡ length ds + suc m → each is_digit ds ≡ true → is_digit (at r 0) ≡ false → 0 < length r → value_from v (take c (ds ++ r)) ≡ NotANumber
unfolding value_from each if◌then◌or_else◌
no_value [] [] v m c e h n l = absurd (omega arith)
no_value [] (b ∷ r) v m c e h n l = let z : c ≡ suc m = omega arith in rw (z, n)
no_value (d ∷ ds) r v m c e h n l =
    let z : c ≡ suc (length ds + suc m) = omega arith in
    rw (z, and_left (is_digit d) (each is_digit ds) h) (no_value ds r (v * 10 + (d - 48)) m (length ds + suc m) refl (and_right (is_digit d) (each is_digit ds) h) n l)

chosen_none : (a b : Bool) (n : Number) → n ≡ NotANumber → (if a then NotANumber or_else if b then NotANumber or_else n) ≡ NotANumber
unfolding if◌then◌or_else◌
chosen_none true b n e = refl
chosen_none false true n e = refl
chosen_none false false n e = e

past_none : (p : ℕ) → past is_word [] p ≡ p
unfolding past
past_none p = refl

-- THE WORD AT THE PLACE p: its digits end at e and come to v, its letters end at n
module _ (t : List ℕ) (p v e n : ℕ) (d : record { value = v; end = e } ≡ digits_from 0 (drop p t) p) (g : n ≡ past is_word (drop e t) e) where
  parts : Split 0 (drop p t) p (record { value = v; end = e })
  parts = subst (λ (z : Decimal). Split 0 (drop p t) p z) (sym d) (split 0 (drop p t) p)

  behind : drop e t ≡ parts.r
  behind =
      ap (λ z. drop z t) parts.end ∙ sym (drop-drop (length parts.ds) p t) ∙ ap (drop (length parts.ds)) parts.whole
      ∙ drop-append_seam parts.ds parts.r

  ends : n ≡ word_end t p
  ends =
      g ∙ ap (λ s. past is_word s e) behind ∙ ap (past is_word parts.r) parts.end
      ∙ sym (ap (λ s. past is_word s p) parts.whole ∙ past_digits parts.ds parts.r p parts.digits)

  some_behind : e < n → 0 < length parts.r
  some_behind l = go parts.r (g ∙ ap (λ s. past is_word s e) behind)
    where
      go : (r : List ℕ) → n ≡ past is_word r e → 0 < length r
      go [] q = absurd (omega (arith, l, q ∙ past_none e))
      go (b ∷ r) q = omega arith

  pub numeral_longer : e < n → record { number = NotANumber; next = n } ≡ numeral_at t p
  unfolding numeral_at number_of
  numeral_longer l =
      let c : n - p ≡ length parts.ds + suc (n - e - 1) = omega (arith, l, parts.end) in
      let value : value_from 0 (part t p n) ≡ NotANumber = ap (λ s. value_from 0 (take (n - p) s)) parts.whole ∙ no_value parts.ds parts.r 0 (n - e - 1) (n - p) c parts.digits parts.last (some_behind l) in
      let none : number_of (part t p n) ≡ NotANumber = chosen_none (eqb (length (part t p n)) 0) (leading_zero (part t p n)) (value_from 0 (part t p n)) value in
      λ i. record { number = (sym none ∙ ap (λ z. number_of (part t p z)) ends) i; next = ends i }

  pub numeral_whole : (w : List ℕ) (m : Number) → n ≤ e → w ≡ part t p e → m ≡ number_by v w → record { number = m; next = e } ≡ numeral_at t p
  unfolding numeral_at number_by number_of
  numeral_whole w m l q h =
      let same : e ≡ word_end t p = (let z : e ≡ n = omega (arith, l, g, past_from is_word (drop e t) e) in z) ∙ ends in
      let c : e - p ≡ length parts.ds = omega (arith, parts.end) in
      let letters : part t p e ≡ parts.ds = ap₂ take c parts.whole ∙ take-append_seam parts.ds parts.r in
      let spelled : number_by v parts.ds ≡ number_of parts.ds = ap (λ (z : Number). if eqb (length parts.ds) 0 then NotANumber or_else if leading_zero parts.ds then NotANumber or_else z) (sym parts.value) in
      λ i. record { number = (h ∙ ap (number_by v) (q ∙ letters) ∙ spelled ∙ ap number_of (sym letters) ∙ ap (λ z. number_of (part t p z)) same) i; next = same i }

-- AS A FIELD
pub field_by : (w p : List ℕ) (b : ℕ) (m n : Number) → b ≡ at w 0 → p ≡ part w 1 (length w) → m ≡ number_of p → n ≡ field_from b m → n ≡ field_of w
unfolding field_of
field_by w p b m n eb ep em en = en ∙ ap₂ field_from eb (em ∙ ap number_of (ep ∙ take_all (length w - 1) (drop 1 w) (omega (arith, length-drop 1 w))))

-- AS AN OPERAND: by its first byte, which is a letter of a field or not
first_no : (k : ℕ) (l : List ℕ) → is_field_letter (at l 0) ≡ false → is_field_letter (at (take k l) 0) ≡ false
unfolding is_field_letter
first_no zero l e = refl
first_no (suc k) [] e = refl
first_no (suc k) (x ∷ l) e = e

pub letter_word : (b : ℕ) → is_field_letter b ≡ true → is_word b ≡ true
unfolding is_field_letter is_word is_letter is_digit between
letter_word b e = go (eqb b 100) refl e
  where
    go : (c : Bool) → eqb b 100 ≡ c → c || eqb b 115 ≡ true → is_word b ≡ true
    go true q k = rw (eqb-true b 100 q)
    go false q k = rw (eqb-true b 115 k)

by_number : (w : List ℕ) → is_field_letter (at w 0) ≡ false → as_number (number_of w) ≡ operand_of w
unfolding operand_of if◌then◌or_else◌
by_number w e = rw e

by_field : (b : ℕ) (w : List ℕ) → is_field_letter b ≡ true → as_field (field_from b (number_of w)) ≡ operand_of (b ∷ w)
unfolding operand_of field_of if◌then◌or_else◌
by_field b w e = rw e

module _ (t : List ℕ) (p : ℕ) where
  pub operand_none : length t ≤ p → record { operand = NotAnOperand; next = p } ≡ operand_at t p
  unfolding operand_at operand_of is_field_letter number_of as_number if◌then◌or_else◌
  operand_none h =
      let same : p ≡ word_end t p = sym (past_end is_word t p h) in
      let c : word_end t p - p ≡ 0 = omega (arith, same) in
      let none : part t p (word_end t p) ≡ [] = ap (λ k. take k (drop p t)) c in
      λ i. record { operand = (sym (ap operand_of none)) i; next = same i }

  module _ (n : Numeral) (o : Operand) where
    pub operand_plain : is_field_letter (at t p) ≡ false → n ≡ numeral_at t p → o ≡ as_number n.number → record { operand = o; next = n.next } ≡ operand_at t p
    unfolding operand_at numeral_at
    operand_plain d e h =
        let other = first_no (word_end t p - p) (drop p t) (ap is_field_letter (first_left t p) ∙ d) in
        λ i. record { operand = (h ∙ ap (λ (z : Numeral). as_number z.number) e ∙ by_number (part t p (word_end t p)) other) i; next = (ap (λ (z : Numeral). z.next) e) i }
      where
        first_left : (t : List ℕ) (p : ℕ) → at (drop p t) 0 ≡ at t p
        first_left t p = get_or-drop p t 0 0 ∙ ap (at t) (add-zero p)

    pub operand_field_at : (f : Number) → p < length t → is_field_letter (at t p) ≡ true → n ≡ numeral_at t (p + 1) → f ≡ field_from (at t p) n.number → o ≡ as_field f
        → record { operand = o; next = n.next } ≡ operand_at t p
    unfolding operand_at numeral_at
    operand_field_at f l d e g h =
        let same : word_end t (p + 1) ≡ word_end t p = sym (past_more is_word t p l (letter_word (at t p) d)) in
        let c : word_end t p - p ≡ suc (word_end t p - (p + 1)) = omega (arith, same, past_from is_word (drop (p + 1) t) (p + 1)) in
        let letters : part t p (word_end t p) ≡ at t p ∷ part t (p + 1) (word_end t p) = ap₂ take c (drop-cons t p 0 l ∙ ap (λ k. at t p ∷ drop k t) (sym (add-one p))) in
        let field : f ≡ field_from (at t p) (number_of (part t (p + 1) (word_end t p))) = g ∙ ap (λ (z : Numeral). field_from (at t p) z.number) e ∙ ap (λ z. field_from (at t p) (number_of (part t (p + 1) z))) same in
        λ i. record {
          operand = (h ∙ ap as_field field ∙ by_field (at t p) (part t (p + 1) (word_end t p)) d ∙ sym (ap operand_of letters)) i;
          next = (ap (λ (z : Numeral). z.next) e ∙ same) i;
        }
