-- A number as it is written: its decimal digits, no zero before them. Reading them gives the number. Assumes nothing.
use mathlib.Core.Path.{◌≡◌, ◌∙◌, refl, sym, ap, subst}
use mathlib.Core.Bool.{Bool, true, false, ◌||◌}
use mathlib.Core.List.{List, [], ◌∷◌, ◌++◌, append_assoc, append-nil}
use Prim.Native.Nat.{ℕ, zero, suc, ◌+◌, ◌*◌, ◌-◌, ◌/◌, ◌%◌, ◌^◌, ◌<◌, ◌≤◌}
use native.Mathlib.Decide.{dec_lt}
use native.Mathlib.Nat.{pow-suc, add-zero}
use native.Mathlib.Omega.{arith}
use lib.Dec.{ltb, eqb}
use lib.ListN.{length, length-append, get_or-append}
use borrow.Author.Tests.{lt-ltb, le-leb, lt-leb, ne_eqb}
use Rattle.base_words.specs.Counts.{fields, stores}
use Rattle.base_words.specs.Each.{each}
use Rattle.base_words.specs.Pick.{if◌then◌or_else◌}
use Rattle.base_words.specs.Words.{at, greatest}
use Rattle.base_words.proofs.EachLaws.{each_append}
use Rattle.base_words.proofs.PickLaws.{and_true, and_false_right}
use Rattle.text_lexer.specs.Lexer.{is_word}
use Rattle.base_bytes.specs.Bytes.{between, is_digit, is_letter}
use Rattle.text_numerals.specs.declared.Number.TheVariants.{Value, TooLarge}
use Rattle.text_numerals.specs.declared.Operand.TheVariants.{Number as Constant}
use Rattle.text_numerals.specs.Numerals.{value_from, leading_zero, number_of, is_field_letter, field_behind, field_from, field_of, as_number, operand_of}

-- the word w spells the number n: one digit, or a number but 0 and one digit behind it
pub data Spelled : ℕ → List ℕ → Type 0 where
  one : (d : ℕ) → d < 10 → Spelled d ((48 + d) ∷ [])
  more : (n d : ℕ) (w : List ℕ) → 0 < n → d < 10 → Spelled n w → Spelled (n * 10 + d) (w ++ (48 + d) ∷ [])

digit_is : (d : ℕ) → d < 10 → is_digit (48 + d) ≡ true
unfolding is_digit between
digit_is d h = rw (le-leb 48 (48 + d) (omega arith), le-leb (48 + d) 57 (omega arith))

digit_word : (d : ℕ) → d < 10 → is_word (48 + d) ≡ true
unfolding is_word
digit_word d h = rw (digit_is d h) (go (is_letter (48 + d)))
  where
    go : (b : Bool) → b || true ≡ true
    go true = refl
    go false = refl

-- it is a word
pub spelled_some : {n : ℕ} {w : List ℕ} → Spelled n w → 0 < length w
spelled_some (one d h) = omega arith
spelled_some (more n d w z h s) = omega (arith, length-append w ((48 + d) ∷ []))

pub spelled_word : {n : ℕ} {w : List ℕ} → Spelled n w → each is_word w ≡ true
unfolding each
spelled_word (one d h) = rw (digit_word d h)
spelled_word (more n d w z h s) =
    each_append is_word w ((48 + d) ∷ []) ∙ and_true (each is_word w) (each is_word ((48 + d) ∷ [])) (spelled_word s) (rw (digit_word d h))

-- reading on behind it is reading on from its value
value_digit : (v d : ℕ) (s : List ℕ) → d < 10 → value_from v ((48 + d) ∷ s) ≡ value_from (v * 10 + d) s
unfolding value_from if◌then◌or_else◌
value_digit v d s h = rw (digit_is d h) (ap (λ (k : ℕ). value_from (v * 10 + k) s) (let e : 48 + d - 48 ≡ d = omega arith in e))

pub spelled_value : {n : ℕ} {w : List ℕ} → Spelled n w → (s : List ℕ) → value_from 0 (w ++ s) ≡ value_from n s
spelled_value (one d h) s = value_digit 0 d s h ∙ ap (λ (k : ℕ). value_from k s) (let e : 0 * 10 + d ≡ d = omega arith in e)
spelled_value (more n d w z h p) s =
    rw append_assoc (spelled_value p ((48 + d) ∷ s) ∙ value_digit n d s h)

-- no zero before it
pub spelled_first : {n : ℕ} {w : List ℕ} → Spelled n w → (0 < n → 49 ≤ at w 0) × (48 ≤ at w 0) × (at w 0 ≤ 57)
spelled_first (one d h) = (λ z. omega arith, omega arith, omega arith)
spelled_first (more n d w z h s) =
    rw (get_or-append w ((48 + d) ∷ []) 0 0 (spelled_some s))
    (λ _. (spelled_first s).0 z, (spelled_first s).1, (spelled_first s).2)

spelled_plain : {n : ℕ} {w : List ℕ} → Spelled n w → leading_zero w ≡ false
unfolding leading_zero
spelled_plain (one d h) = refl
spelled_plain (more n d w z h s) =
    and_false_right (ltb 1 (length (w ++ (48 + d) ∷ []))) (eqb (at (w ++ (48 + d) ∷ []) 0) 48)
    (ne_eqb (at (w ++ (48 + d) ∷ []) 0) 48
    (λ e. omega (arith, e, (spelled_first (more n d w z h s)).0 (omega arith))))

module _ {n : ℕ} {w : List ℕ} (s : Spelled n w) where
  read : number_of w ≡ value_from n []
  unfolding number_of if◌then◌or_else◌
  read =
      rw (ne_eqb (length w) 0 (λ e. omega (arith, e, spelled_some s)), spelled_plain s)
      (sym (ap (value_from 0) (append-nil w)) ∙ spelled_value s [])

  -- THE LAW for numbers
  pub number_spelled : n ≤ greatest → number_of w ≡ Value n
  number_spelled h = read ∙ within
    where
      within : value_from n [] ≡ Value n
      within = unfold value_from if◌then◌or_else◌ in rw (le-leb n greatest h)

  pub number_above : greatest < n → number_of w ≡ TooLarge
  number_above h = read ∙ above
    where
      above : value_from n [] ≡ TooLarge
      above = unfold value_from if◌then◌or_else◌ in rw (lt-leb n greatest h)

  -- for fields and stores
  pub field_spelled : n < fields → field_of (100 ∷ w) ≡ Value n
  unfolding field_of field_from field_behind if◌then◌or_else◌
  field_spelled h = rw (number_spelled (omega arith), lt-ltb n fields h, add-zero n)

  pub store_spelled : n < stores → field_of (115 ∷ w) ≡ Value (n + fields)
  unfolding field_of field_from field_behind if◌then◌or_else◌
  store_spelled h = rw (number_spelled (omega arith), lt-ltb n stores h)

  -- and for operands
  pub constant_spelled : n ≤ greatest → operand_of w ≡ Constant n
  unfolding operand_of is_field_letter as_number if◌then◌or_else◌
  constant_spelled h = rw (ne_eqb (at w 0) 100 (λ e. omega (arith, e, (spelled_first s).2)), ne_eqb (at w 0) 115 (λ e. omega (arith, e, (spelled_first s).2)), number_spelled h)

-- what a writer has to show of its digits: `digits n` are those of n, for every n below 10 to the k
module _ (digits : ℕ → List ℕ) (k : ℕ) (last : (n : ℕ) → n < 10 → digits n ≡ (48 + n) ∷ []) (step : (n : ℕ) → 10 ≤ n → n < 10 ^ k → digits n ≡ digits (n / 10) ++ (48 + n % 10) ∷ []) where
  small : (n : ℕ) → n < 10 → Spelled n (digits n)
  small n h = subst (Spelled n) (sym (last n h)) (one n h)

  spell : (j n : ℕ) → n < 10 ^ suc j → n < 10 ^ k → Spelled n (digits n)
  spell zero n h l = small n h
  spell (suc j) n h l = go (dec_lt n 10) (spell j (n / 10) (omega (arith, pow-suc 10 (suc j))) (omega arith))
    where
      go : Dec (n < 10) → Spelled (n / 10) (digits (n / 10)) → Spelled n (digits n)
      go (yes s) r = small n s
      go (no s) r =
          subst (Spelled n) (sym (step n (omega arith) l))
          (subst (λ (m : ℕ). Spelled m (digits (n / 10) ++ (48 + n % 10) ∷ [])) (let e : n / 10 * 10 + n % 10 ≡ n = omega arith in e)
          (more (n / 10) (n % 10) (digits (n / 10)) (omega arith) (omega arith) r))

  pub spelled_by : (n : ℕ) → n < 10 ^ k → Spelled n (digits n)
  spelled_by n h = spell k n (omega (arith, pow-suc 10 k)) h
