-- Words stored: numbers, fields, operands, modes. Assumes nothing.
use Prim.Native.Nat.{ℕ, ◌+◌, ◌-◌, ◌*◌, ◌≤◌, ◌<◌}
use mathlib.Core.Path.{◌≡◌, ◌∙◌, refl, sym, ap, subst}
use mathlib.Core.Bool.{Bool, true, false, ◌&&◌, false≢true}
use mathlib.Core.List.{List, [], ◌∷◌}
use native.Mathlib.Decide.{ℕ_discrete}
use native.Mathlib.Omega.{arith}
use lib.Dec.{eqb, leb, ltb}
use lib.ListN.{length, drop, set, length-set}
use lib.Seq.{get_or-drop, get_or-set_same, get_or-set_other}
use borrow.Author.Tests.{leb-true, ltb-true, eqb-false, lt-ltb}
use Rattle.base_words.specs.Counts.{fields, stores, fields_named}
use Rattle.base_words.specs.Pick.{if◌then◌or_else◌}
use Rattle.base_words.specs.Text.{bytes}
use Rattle.base_words.specs.Words.{at, greatest}
use Rattle.base_words.proofs.AllLaws.{and_left, and_right}
use Rattle.base_kinds.specs.Moves.{a, na_c, na_nc}
use Rattle.base_table.specs.Places.{element_words, mode_place, a_field, operand_number}
use Rattle.check_limits.specs.Limits.{operand_fits}
use Rattle.text_lexer.specs.declared.Form.{Form}
use Rattle.text_lexer.specs.declared.Form.TheVariants.{Word, Sign, Assign, End, Other}
use Rattle.text_lexer.specs.Lexer.{token_at, if_word}
use Rattle.base_bytes.specs.Bytes.{is_digit}
use Rattle.text_numerals.specs.declared.Number.{Number}
use Rattle.text_numerals.specs.declared.Number.TheVariants.{Value, TooLarge, NotANumber}
use Rattle.text_numerals.specs.declared.Operand.{Operand}
use Rattle.text_numerals.specs.declared.Operand.TheVariants.{Number as OfNumber, Field, OutOfRange, NotAnOperand}
use Rattle.text_numerals.specs.Numerals.{value_from, leading_zero, number_of, is_field_letter, field_behind, field_from, field_of, as_number, as_field, operand_of, if_value}
use Rattle.base_bytes.specs.Bytes.{same_bytes}
use Rattle.text_readers.specs.Reading.{Parsed, misplaced, excessive, passed_to, refused_at, place_of, behind, letters, keep_number, number, field, keep_operand, operand, mode_named, keep_mode, mode}
use Rattle.proof_roundtrip.proofs.NumberReads.{Span}
use Rattle.proof_roundtrip.proofs.FillLaws.{refused_passed, same_words, Filled, Fills, filled_set, span_region}
use Rattle.check_limits.proofs.SameLaws.{operand_same}

-- a word is read where reading passes
pub word_passed : (form : Form) (u : Parsed) (n p q : ℕ) (x y : List ℕ) → if_word form u (refused_at n p x) ≡ passed_to q y → u ≡ passed_to q y
unfolding if_word
word_passed Word u n p q x y e = e
word_passed (Sign s) u n p q x y e = absurd (refused_passed n p q x y e)
word_passed Assign u n p q x y e = absurd (refused_passed n p q x y e)
word_passed End u n p q x y e = absurd (refused_passed n p q x y e)
word_passed Other u n p q x y e = absurd (refused_passed n p q x y e)

-- a test is passed
pub test_passed : (b : Bool) (u : Parsed) (n p q : ℕ) (x y : List ℕ) → (if b then u or_else refused_at n p x) ≡ passed_to q y → (b ≡ true) × (u ≡ passed_to q y)
unfolding if◌then◌or_else◌
test_passed true u n p q x y e = (refl, e)
test_passed false u n p q x y e = absurd (refused_passed n p q x y e)

-- NUMBERS
same_value : (v n : ℕ) → Value v ≡ Value n → v ≡ n
unfolding if_value
same_value v n e = ap (λ (z : Number). if_value z (λ k. k) 0) e

no_value : (z : Number) (n : ℕ) → if_value z (λ k. true) false ≡ false → z ≡ Value n → ⊥
unfolding if_value
no_value z n f e = false≢true (sym f ∙ ap (λ (k : Number). if_value k (λ j. true) false) e)

-- a number that is read is a word
value_small : (v : ℕ) (w : List ℕ) (n : ℕ) → value_from v w ≡ Value n → n ≤ greatest
unfolding value_from
value_small v [] n e = go (leb v greatest) refl e
  where
    go : (b : Bool) → leb v greatest ≡ b → (if b then Value v or_else TooLarge) ≡ Value n → n ≤ greatest
    go true h e = subst (λ (k : ℕ). k ≤ greatest) (same_value v n (unfold if◌then◌or_else◌ in e)) (leb-true v greatest h)
    go false h e = absurd (no_value TooLarge n (unfold if_value in refl) (unfold if◌then◌or_else◌ in e))
value_small v (d ∷ w) n e = go (is_digit d) e (value_small (v * 10 + (d - 48)) w n)
  where
    go : (b : Bool) → (if b then value_from (v * 10 + (d - 48)) w or_else NotANumber) ≡ Value n → (value_from (v * 10 + (d - 48)) w ≡ Value n → n ≤ greatest) → n ≤ greatest
    go true e k = k (unfold if◌then◌or_else◌ in e)
    go false e k = absurd (no_value NotANumber n (unfold if_value in refl) (unfold if◌then◌or_else◌ in e))

number_small : (w : List ℕ) (n : ℕ) → number_of w ≡ Value n → n ≤ greatest
unfolding number_of
number_small w n e = go (eqb (length w) 0) (leading_zero w) e
  where
    go : (b c : Bool) → (if b then NotANumber or_else if c then NotANumber or_else value_from 0 w) ≡ Value n → n ≤ greatest
    go true c e = absurd (no_value NotANumber n (unfold if_value in refl) (unfold if◌then◌or_else◌ in e))
    go false true e = absurd (no_value NotANumber n (unfold if_value in refl) (unfold if◌then◌or_else◌ in e))
    go false false e = value_small 0 w n (unfold if◌then◌or_else◌ in e)

-- what was kept of it
pub record Kept (least most place : ℕ) (x y : List ℕ) : Type 0 where
  pub value : ℕ
  pub low : least ≤ value
  pub high : value ≤ most
  pub put : set x place value ≡ y

kept : (n : Number) (least most place p q r : ℕ) (x y : List ℕ) → keep_number n least most place p q x ≡ passed_to r y → Kept least most place x y
unfolding keep_number
kept (Value v) least most place p q r x y e =
    let m = test_passed (leb least v && leb v most) (passed_to q (set x place v)) excessive p r x y e in
    record {
      value = v;
      low = leb-true least v (and_left (leb least v) (leb v most) m.0);
      high = leb-true v most (and_right (leb least v) (leb v most) m.0);
      put = same_words q r (set x place v) y m.1;
    }
kept TooLarge least most place p q r x y e = absurd (refused_passed excessive p r x y e)
kept NotANumber least most place p q r x y e = absurd (refused_passed misplaced p r x y e)

pub number_passed : (least most place : ℕ) (text x : List ℕ) (from q : ℕ) (y : List ℕ) → number least most place text from x ≡ passed_to q y → Kept least most place x y
unfolding number
number_passed least most place text x from q y e =
    kept (number_of (letters text from)) least most place (place_of text from) (behind text from) q x y (word_passed (token_at text from).form _ misplaced (place_of text from) q x y e)

-- the number at a place is from least to most
abbrev pub Ranged : ℕ → ℕ → ℕ → List ℕ → Type 0
Ranged least most place y = (least ≤ at y place) × (at y place ≤ most)

module _ (least most place : ℕ) (h : place < element_words) (g : most ≤ greatest) where
  filled_kept : (x y : List ℕ) → Kept least most place x y → length x ≡ element_words → Filled x y (λ i. i ≡ place) (Ranged least most place)
  filled_kept x y k l = subst (λ (z : List ℕ). Filled x z (λ i. i ≡ place) (Ranged least most place)) k.put (go k.value k.low k.high)
    where
      go : (v : ℕ) → least ≤ v → v ≤ most → Filled x (set x place v) (λ i. i ≡ place) (Ranged least most place)
      go v lo hi =
          let f = filled_set x place v l h (omega (arith, hi, g)) in
          record { same_length = f.same_length; others = f.others; small = f.small; good = (subst (λ (k : ℕ). least ≤ k) (sym f.good) lo, subst (λ (k : ℕ). k ≤ most) (sym f.good) hi) }

  ranged_local : (y z : List ℕ) → ((i : ℕ) → i ≡ place → at z i ≡ at y i) → Ranged least most place y → Ranged least most place z
  ranged_local y z s r = (subst (λ (k : ℕ). least ≤ k) (sym (s place refl)) r.0, subst (λ (k : ℕ). k ≤ most) (sym (s place refl)) r.1)

  pub fills_number : Fills (number least most place) (λ i. i ≡ place) (Ranged least most place)
  fills_number =
      record {
        decide = λ i. ℕ_discrete i place;
        local = ranged_local;
        fills = λ text x from q y e l o.
            filled_kept x y (number_passed least most place text x from q y e) l;
      }

pub fills_field : (place : ℕ) → place < element_words → Fills (field place) (λ i. i ≡ place) (Ranged 0 31 place)
unfolding field
fills_field place h =
    record {
      decide = λ i. ℕ_discrete i place;
      local = ranged_local 0 31 place h (omega arith);
      fills = λ text x from q y e l o.
          filled_kept 0 31 place h (omega arith) x y (kept (field_of (letters text from)) 0 31 place (place_of text from) (behind text from) q x y (word_passed (token_at text from).form _ misplaced (place_of text from) q x y e)) l;
    }

-- OPERANDS: a number that is a word, or a field
abbrev Sound : Operand → Type 0
Sound (OfNumber v) = v ≤ greatest
Sound (Field d) = d < fields_named
Sound OutOfRange = 0 ≤ greatest
Sound NotAnOperand = 0 ≤ greatest

sound_number : (n : Number) → ((v : ℕ) → n ≡ Value v → v ≤ greatest) → Sound (as_number n)
unfolding as_number
sound_number (Value v) h = h v refl
sound_number TooLarge h = omega arith
sound_number NotANumber h = omega arith

sound_behind : (before count : ℕ) → before + count ≤ fields_named → (n : Number) → Sound (as_field (field_behind before count n))
unfolding as_field field_behind
sound_behind before count h (Value v) = go (ltb v count) refl
  where
    go : (b : Bool) → ltb v count ≡ b → Sound (as_field (if b then Value (v + before) or_else TooLarge))
    go true e = unfold if◌then◌or_else◌ as_field in omega (arith, h, ltb-true v count e)
    go false e = unfold if◌then◌or_else◌ as_field in omega arith
sound_behind before count h TooLarge = omega arith
sound_behind before count h NotANumber = omega arith

sound_field : (letter : ℕ) (n : Number) → Sound (as_field (field_from letter n))
unfolding field_from
sound_field letter n = go (eqb letter 100) (eqb letter 115)
  where
    go : (b c : Bool) → Sound (as_field (if b then field_behind 0 fields n or_else if c then field_behind fields stores n or_else NotANumber))
    go true c = unfold if◌then◌or_else◌ in sound_behind 0 fields (omega arith) n
    go false true = unfold if◌then◌or_else◌ in sound_behind fields stores (omega arith) n
    go false false = unfold if◌then◌or_else◌ as_field in omega arith

sound : (w : List ℕ) → Sound (operand_of w)
unfolding operand_of field_of
sound w = go (is_field_letter (at w 0))
  where
    go : (b : Bool) → Sound (if b then as_field (field_from (at w 0) (number_of (drop 1 w))) or_else as_number (number_of w))
    go true = unfold if◌then◌or_else◌ in sound_field (at w 0) (number_of (drop 1 w))
    go false = unfold if◌then◌or_else◌ in sound_number (number_of w) (number_small w)

-- two words stored
module _ (x : List ℕ) (place u v : ℕ) (l : length x ≡ element_words) (h : place + 1 < element_words) where
  stored : List ℕ
  stored = set (set x place u) (place + operand_number) v

  first : at stored place ≡ u
  unfolding stored
  first = get_or-set_other (set x place u) (place + 1) place v 0 (λ e. omega (arith, e)) ∙ get_or-set_same x place u 0 (omega (arith, l, h))

  second : at stored (place + 1) ≡ v
  unfolding stored
  second = get_or-set_same (set x place u) (place + 1) v 0 (omega (arith, l, h, length-set x place u))

  filled_two : u ≤ greatest → v ≤ greatest → operand_fits (drop place stored) ≡ true → Filled x (set (set x place u) (place + operand_number) v) (Span place 2) (λ y. operand_fits (drop place y) ≡ true)
  unfolding stored
  filled_two su sv f =
      record {
        same_length = length-set (set x place u) (place + 1) v ∙ length-set x place u;
        others = λ i n. get_or-set_other (set x place u) (place + 1) i v 0 (λ e. n (omega (arith, e), omega (arith, e))) ∙ get_or-set_other x place i u 0 (λ e. n (omega (arith, e), omega (arith, e)));
        small = λ i s. one i s (ℕ_discrete i place);
        good = f;
      }
    where
      one : (i : ℕ) → Span place 2 i → Dec (i ≡ place) → at stored i ≤ greatest
      one i s (yes e) = subst (λ (k : ℕ). k ≤ greatest) (sym (ap (at stored) e ∙ first)) su
      one i s (no n) = subst (λ (k : ℕ). k ≤ greatest) (sym (ap (at stored) (let q : i ≡ place + 1 = omega (arith, s.0, s.1, n) in q) ∙ second)) sv

operand_words : (x : List ℕ) (place u v : ℕ) → at x place ≡ u → at x (place + 1) ≡ v → operand_fits (drop place x) ≡ (if eqb u 0 then true or_else eqb u a_field && ltb v fields_named)
unfolding operand_fits
operand_words x place u v e f = rw (get_or-drop place x 0 0 ∙ ap (at x) (let q : place + 0 ≡ place = omega arith in q) ∙ e, get_or-drop place x 1 0 ∙ f)

filled_operand : (o : Operand) (place p q r : ℕ) (x y : List ℕ) → Sound o → place + 1 < element_words → length x ≡ element_words → keep_operand o place p q x ≡ passed_to r y → Filled x y (Span place 2) (λ y. operand_fits (drop place y) ≡ true)
unfolding keep_operand
filled_operand (OfNumber v) place p q r x y s h l e =
    subst (λ (z : List ℕ). Filled x z (Span place 2) (λ y. operand_fits (drop place y) ≡ true)) (same_words q r _ y e)
    (filled_two x place 0 v l h (omega arith) s (operand_words (stored x place 0 v l h) place 0 v (first x place 0 v l h) (second x place 0 v l h) ∙ (unfold if◌then◌or_else◌ in refl)))
filled_operand (Field d) place p q r x y s h l e =
    subst (λ (z : List ℕ). Filled x z (Span place 2) (λ y. operand_fits (drop place y) ≡ true)) (same_words q r _ y e)
    (filled_two x place 1 d l h (omega arith) (omega (arith, s))
    (operand_words (stored x place 1 d l h) place 1 d (first x place 1 d l h) (second x place 1 d l h) ∙ (unfold if◌then◌or_else◌ in lt-ltb d fields_named s)))
filled_operand OutOfRange place p q r x y s h l e = absurd (refused_passed excessive p r x y e)
filled_operand NotAnOperand place p q r x y s h l e = absurd (refused_passed misplaced p r x y e)

pub fills_operand : (place : ℕ) → place + 1 < element_words → Fills (operand place) (Span place 2) (λ y. operand_fits (drop place y) ≡ true)
unfolding operand
fills_operand place h =
    record {
      decide = span_region place 2;
      local = λ y z s f. operand_same (drop place y) (drop place z) (λ i l. get_or-drop place z i 0 ∙ s (place + i) (omega arith, omega (arith, l)) ∙ sym (get_or-drop place y i 0)) ∙ f;
      fills = λ text x from q y e l o.
          filled_operand (operand_of (letters text from)) place (place_of text from) (behind text from) q x y (sound (letters text from)) h l (word_passed (token_at text from).form _ misplaced (place_of text from) q x y e);
    }

-- MODES
mode_most : (w : List ℕ) → mode_named w ≤ 3
unfolding mode_named
mode_most w = go (same_bytes w (bytes "a")) (same_bytes w (bytes "na_c")) (same_bytes w (bytes "na_nc"))
  where
    go : (b c d : Bool) → (if b then a or_else if c then na_c or_else if d then na_nc or_else 0) ≤ 3
    go true c d = unfold if◌then◌or_else◌ in omega arith
    go false true d = unfold if◌then◌or_else◌ in omega arith
    go false false true = unfold if◌then◌or_else◌ in omega arith
    go false false false = unfold if◌then◌or_else◌ in omega arith

kept_mode : (m p q r : ℕ) (x y : List ℕ) → m ≤ 3 → keep_mode m p q x ≡ passed_to r y → Kept 1 3 mode_place x y
unfolding keep_mode
kept_mode m p q r x y h e = go (eqb m 0) refl e
  where
    go : (b : Bool) → eqb m 0 ≡ b → (if b then refused_at misplaced p x or_else passed_to q (set x mode_place m)) ≡ passed_to r y → Kept 1 3 mode_place x y
    go true z e = absurd (refused_passed misplaced p r x y (unfold if◌then◌or_else◌ in e))
    go false z e = let n = eqb-false m 0 z in record { value = m; low = omega (arith, n); high = h; put = same_words q r (set x mode_place m) y (unfold if◌then◌or_else◌ in e) }

pub fills_mode : Fills mode (λ i. i ≡ mode_place) (Ranged 1 3 mode_place)
unfolding mode
fills_mode =
    record {
      decide = λ i. ℕ_discrete i mode_place;
      local = ranged_local 1 3 mode_place (omega arith) (omega arith);
      fills = λ text x from q y e l o.
          filled_kept 1 3 mode_place (omega arith) (omega arith) x y
          (kept_mode (mode_named (letters text from)) (place_of text from) (behind text from) q x y (mode_most (letters text from)) (word_passed (token_at text from).form _ misplaced (place_of text from) q x y e)) l;
    }
