-- WORDS READ BACK: numbers, fields, operands, modes. Assumes nothing.
use Prim.Native.Nat.{ℕ, zero, suc, ◌+◌, ◌-◌, ◌*◌, ◌/◌, ◌%◌, ◌^◌, ◌<◌, ◌≤◌}
use mathlib.Core.Path.{◌≡◌, ◌∙◌, refl, sym, ap, subst}
use mathlib.Core.Bool.{Bool, true, false, ◌&&◌}
use mathlib.Core.List.{List, [], ◌∷◌, ◌++◌}
use mathlib.Core.Logic.{◌⊎◌, inl, inr, ⊎_elim}
use native.Mathlib.Decide.{ℕ_discrete, dec_lt}
use native.Mathlib.Nat.{pow-suc, add-zero}
use native.Mathlib.Omega.{arith}
use lib.Dec.{eqb, leb, ltb}
use lib.ListN.{length, drop, set}
use lib.Seq.{get_or-drop}
use borrow.Author.Tests.{eq-eqb, ne_eqb, le-leb, eqb-true, ltb-true, ltb-false, not-true}
use Rattle.base_words.specs.Counts.{fields, fields_named}
use Rattle.base_words.specs.Each.{each}
use Rattle.base_words.specs.Pick.{if◌then◌or_else◌}
use Rattle.base_words.specs.Text.{bytes}
use Rattle.base_words.specs.Words.{at, part, greatest, digits}
use Rattle.base_words.proofs.AllLaws.{and_left, and_right}
use Rattle.base_words.proofs.PickLaws.{pick_yes, pick_no, and_true}
use Rattle.base_table.specs.Places.{element_words, mode_place, operand_number}
use Rattle.check_limits.specs.Limits.{operand_fits}
use Rattle.text_lexer.specs.declared.Token.{Token}
use Rattle.text_lexer.specs.declared.Form.TheVariants.{Word}
use Rattle.text_lexer.specs.Lexer.{is_word, placed, token_at, if_word}
use Rattle.base_bytes.specs.Bytes.{is_letter, is_digit, between}
use Rattle.text_lexer.proofs.TokenLaws.{word_at, bytes_at}
use Rattle.text_numerals.specs.declared.Number.{Number}
use Rattle.text_numerals.specs.declared.Number.TheVariants.{Value}
use Rattle.text_numerals.specs.declared.Operand.{Operand}
use Rattle.text_numerals.specs.declared.Operand.TheVariants.{Number as OfNumber, Field}
use Rattle.text_numerals.specs.Numerals.{number_of, is_field_letter, field_of, as_field, operand_of}
use Rattle.base_bytes.specs.Bytes.{same_bytes}
use Rattle.text_numerals.proofs.Spelled.{Spelled, one, more, spelled_some, spelled_word, spelled_first, number_spelled, constant_spelled, field_spelled, store_spelled}
use Rattle.text_readers.specs.Reading.{Parsed, misplaced, passed_to, refused_at, letters, keep_number, number, field, keep_operand, operand, mode_named, keep_mode, mode}
use Rattle.write_decimals.specs.Decimals.{shown_from, shown}
use Rattle.write_decimals.proofs.DecimalLaws.{shown_one, shown_more}
use Rattle.write_shown.specs.Shown.{shown_field, shown_operand, shown_mode}
use Rattle.proof_roundtrip.specs.Trip.{Below, may_follow}
use Rattle.proof_roundtrip.proofs.ReadsLaws.{Onto, Reads, onto_set, onto_then, onto_wider, reads_text}
use Rattle.proof_roundtrip.proofs.SignReads.{opens}

-- n places from a on
abbrev pub Span : ℕ → ℕ → ℕ → Type 0
Span a n i = (a ≤ i) × (i < a + n)

pub span_one : (a i : ℕ) → Span a 1 i → i ≡ a
span_one a i s = omega (arith, s.0, s.1)

pub span_split : (a m n i : ℕ) → Span a (m + n) i → Span a m i ⊎ Span (a + m) n i
span_split a m n i s = go (dec_lt i (a + m))
  where
    go : Dec (i < a + m) → Span a m i ⊎ Span (a + m) n i
    go (yes l) = inl (s.0, l)
    go (no l) = inr (omega (arith, l), omega (arith, s.1))

-- A NUMBER AS IT IS WRITTEN
from_spelled : (k n : ℕ) → n < 10 ^ suc k → Spelled n (shown_from (suc k) n)
from_spelled zero n h = let l : n < 10 = omega arith in subst (Spelled n) (sym (shown_one 0 n l)) (one n l)
from_spelled (suc k) n h = go (dec_lt n 10) (from_spelled k (n / 10) (omega (arith, pow-suc 10 (suc k))))
  where
    go : Dec (n < 10) → Spelled (n / 10) (shown_from (suc k) (n / 10)) → Spelled n (shown_from (suc (suc k)) n)
    go (yes l) s = subst (Spelled n) (sym (shown_one (suc k) n l)) (one n l)
    go (no l) s =
        subst (Spelled n) (sym (shown_more (suc k) n (omega (arith, l))))
        (subst (λ (m : ℕ). Spelled m (shown_from (suc k) (n / 10) ++ (48 + n % 10) ∷ [])) (let e : n / 10 * 10 + n % 10 ≡ n = omega arith in e)
        (more (n / 10) (n % 10) (shown_from (suc k) (n / 10)) (omega (arith, l)) (omega arith) s))

pub shown_spelled : (n : ℕ) → n ≤ greatest → Spelled n (shown n)
unfolding shown
shown_spelled n h = from_spelled (digits - 1) n (omega arith)

-- A WORD IN THE TEXT
stops_at : (rest : List ℕ) → may_follow rest ≡ true → is_word (at rest 0) ≡ false
unfolding may_follow
stops_at [] e = unfold is_word is_letter is_digit between in refl
stops_at (b ∷ rest) e = not-true (is_word b) e

pub record Worded (w : List ℕ) : Type 0 where
  pub some : 0 < length w
  pub plain : each is_word w ≡ true

module _ (text w rest : List ℕ) (from : ℕ) (d : drop from text ≡ w ++ rest) (g : Worded w) (s : may_follow rest ≡ true) where
  pub word_token : token_at text from ≡ placed Word from (from + length w)
  word_token = word_at text from w rest d g.some g.plain (stops_at rest s)

  pub word_letters : letters text from ≡ w
  word_letters = ap (λ (k : Token). part text k.at k.next) word_token ∙ bytes_at text from w rest d

  -- a reader that takes a word
  pub word_taken : (keep : List ℕ → ℕ → ℕ → Parsed) (miss : ℕ → Parsed)
      → if_word (token_at text from).form (keep (letters text from) (token_at text from).at (token_at text from).next) (miss (token_at text from).at) ≡ keep w from (from + length w)
  unfolding if_word
  word_taken keep miss =
      ap (λ (k : Token). if_word k.form (keep (part text k.at k.next) k.at k.next) (miss k.at)) word_token
      ∙ ap (λ (u : List ℕ). keep u from (from + length w)) (bytes_at text from w rest d)

pub spelled_worded : {n : ℕ} {w : List ℕ} → Spelled n w → Worded w
spelled_worded s = record { some = spelled_some s; plain = spelled_word s }

lettered_worded : (b : ℕ) {n : ℕ} {w : List ℕ} → is_word b ≡ true → Spelled n w → Worded (b ∷ w)
lettered_worded b {n} {w} e s = record { some = omega arith; plain = unfold each in and_true (is_word b) (each is_word w) e (spelled_word s) }

-- A FIELD'S TEXT, of an instance's own or of a store
field_either : (P : List ℕ → Type 0) (d : ℕ) → (d < fields → P (100 ∷ shown d)) → (fields ≤ d → P (115 ∷ shown (d - fields))) → P (shown_field d)
unfolding shown_field
field_either P d own store = go (ltb d fields) refl
  where
    go : (b : Bool) → ltb d fields ≡ b → P (if b then 100 ∷ shown d or_else 115 ∷ shown (d - fields))
    go true e = unfold if◌then◌or_else◌ in own (ltb-true d fields e)
    go false e = unfold if◌then◌or_else◌ in store (ltb-false d fields e)

pub field_worded : (d : ℕ) → d ≤ greatest → Worded (shown_field d)
field_worded d h =
    field_either Worded d
    (λ l. lettered_worded 100 (unfold is_word is_letter is_digit between in refl) (shown_spelled d h))
    (λ l. lettered_worded 115 (unfold is_word is_letter is_digit between in refl) (shown_spelled (d - fields) (omega (arith, h))))

field_value : (d : ℕ) → d < fields_named → field_of (shown_field d) ≡ Value d
field_value d h =
    field_either (λ (w : List ℕ). field_of w ≡ Value d) d
    (λ l. field_spelled (shown_spelled d (omega (arith, h))) l)
    (λ l. store_spelled (shown_spelled (d - fields) (omega (arith, h))) (omega (arith, h, l)) ∙ ap (λ (k : ℕ). Value k) (let e : d - fields + fields ≡ d = omega (arith, l) in e))

field-operand : (d : ℕ) → d < fields_named → operand_of (shown_field d) ≡ Field d
field-operand d h =
    field_either (λ (w : List ℕ). operand_of w ≡ as_field (field_of w)) d
    (λ l. unfold operand_of is_field_letter if◌then◌or_else◌ in refl)
    (λ l. unfold operand_of is_field_letter if◌then◌or_else◌ in refl)
    ∙ ap as_field (field_value d h) ∙ (unfold as_field in refl)

-- AN OPERAND, by its first word: its text, and what its limits say
pub operand_constant : (x : List ℕ) → (at x 0 ≡ 1 → ⊥) → shown_operand x ≡ shown (at x 1)
unfolding shown_operand
operand_constant x n = sym (pick_no _ _ _ _ (ne_eqb (at x 0) 1 n) refl)

pub operand_field : (x : List ℕ) → at x 0 ≡ 1 → shown_operand x ≡ shown_field (at x 1)
unfolding shown_operand
operand_field x e = sym (pick_yes _ _ _ _ (eq-eqb (at x 0) 1 e) refl)

-- the arm that a test takes
pub then_of : {A : Type 0} (b : Bool) (x y w : A) → (if b then x or_else y) ≡ w → b ≡ true → x ≡ w
then_of b x y w h e = pick_yes b x x y e refl ∙ h

pub else_of : {A : Type 0} (b : Bool) (x y w : A) → (if b then x or_else y) ≡ w → b ≡ false → y ≡ w
else_of b x y w h e = pick_no b y x y e refl ∙ h

operand-zero : (x : List ℕ) → operand_fits x ≡ true → (at x 0 ≡ 1 → ⊥) → 0 ≡ at x 0
unfolding operand_fits
operand-zero x fit n = choose (eqb (at x 0) 0) refl
  where
    choose : (t : Bool) → eqb (at x 0) 0 ≡ t → 0 ≡ at x 0
    choose true e = sym (eqb-true (at x 0) 0 e)
    choose false e = absurd (n (eqb-true (at x 0) 1 (and_left (eqb (at x 0) 1) (ltb (at x 1) fields_named) (else_of _ _ _ _ fit e))))

operand_small : (x : List ℕ) → operand_fits x ≡ true → at x 0 ≡ 1 → at x 1 < fields_named
unfolding operand_fits
operand_small x fit e =
    ltb-true (at x 1) fields_named (and_right (eqb (at x 0) 1) (ltb (at x 1) fields_named) (else_of _ _ _ _ fit (ne_eqb (at x 0) 0 (λ z. omega (arith, z, e)))))

-- A MODE'S TEXT
mode_a : (m : ℕ) → m ≡ 1 → bytes "a" ≡ shown_mode m
unfolding shown_mode if◌then◌or_else◌
mode_a m e = rw e

mode_c : (m : ℕ) → m ≡ 2 → bytes "na_c" ≡ shown_mode m
unfolding shown_mode if◌then◌or_else◌
mode_c m e = rw e

mode_nc : (m : ℕ) → m ≡ 3 → bytes "na_nc" ≡ shown_mode m
unfolding shown_mode if◌then◌or_else◌
mode_nc m e = rw e

-- THE LAWS
module _ {el : List ℕ} where
  pub reads_number : (least most place : ℕ) → place < element_words → least ≤ at el place → at el place ≤ most → at el place ≤ greatest
      → Reads el (number least most place) (shown (at el place)) may_follow (λ i. i ≡ place)
  reads_number least most place h l m g =
      let s = shown_spelled (at el place) g in
      record {
        reads = λ text rest x from d k z b. (
          set x place (at el place),
          taken text rest x from d k s ∙ ap (λ (n : Number). keep_number n least most place from (from + length (shown (at el place))) x) (number_spelled s g) ∙ kept x from,
          onto_set x place (at el place) b (omega (arith, h, z)) refl,
        );
      }
    where
      taken : (text rest x : List ℕ) (from : ℕ) → drop from text ≡ shown (at el place) ++ rest → may_follow rest ≡ true → Spelled (at el place) (shown (at el place))
          → number least most place text from x ≡ keep_number (number_of (shown (at el place))) least most place from (from + length (shown (at el place))) x
      taken text rest x from d k s =
          unfold number in
          word_taken text (shown (at el place)) rest from d (spelled_worded s) k (λ w p q. keep_number (number_of w) least most place p q x) (λ p. refused_at misplaced p x)

      kept : (x : List ℕ) (from : ℕ) → keep_number (Value (at el place)) least most place from (from + length (shown (at el place))) x ≡ passed_to (from + length (shown (at el place))) (set x place (at el place))
      kept x from = unfold keep_number in sym (pick_yes (leb least (at el place) && leb (at el place) most) _ _ _ (and_true _ _ (le-leb least (at el place) l) (le-leb (at el place) most m)) refl)

  pub reads_field : (place : ℕ) → place < element_words → at el place < fields_named → Reads el (field place) (shown_field (at el place)) may_follow (λ i. i ≡ place)
  reads_field place h l =
      record {
        reads = λ text rest x from d k z b. (
          set x place (at el place),
          taken text rest x from d k ∙ ap (λ (n : Number). keep_number n 0 (fields_named - 1) place from (from + length (shown_field (at el place))) x) (field_value (at el place) l)
              ∙ kept x from (from + length (shown_field (at el place))),
          onto_set x place (at el place) b (omega (arith, h, z)) refl,
        );
      }
    where
      taken : (text rest x : List ℕ) (from : ℕ) → drop from text ≡ shown_field (at el place) ++ rest → may_follow rest ≡ true
          → field place text from x ≡ keep_number (field_of (shown_field (at el place))) 0 (fields_named - 1) place from (from + length (shown_field (at el place))) x
      taken text rest x from d k =
          unfold field in
          word_taken text (shown_field (at el place)) rest from d (field_worded (at el place) (omega (arith, l))) k (λ w p q. keep_number (field_of w) 0 (fields_named - 1) place p q x) (λ p. refused_at misplaced p x)

      kept : (x : List ℕ) (p q : ℕ) → keep_number (Value (at el place)) 0 (fields_named - 1) place p q x ≡ passed_to q (set x place (at el place))
      kept x p q = unfold keep_number in sym (pick_yes (leb 0 (at el place) && leb (at el place) (fields_named - 1)) _ _ _ (and_true _ _ (le-leb 0 (at el place) (omega arith)) (le-leb (at el place) (fields_named - 1) (omega (arith, l)))) refl)

  -- an operand's two words
  two_set : (x : List ℕ) (place u v : ℕ) → Below el x → length x ≡ element_words → place + 1 < element_words → u ≡ at el place → v ≡ at el (place + 1)
      → Onto el x (set (set x place u) (place + operand_number) v) (Span place 2)
  two_set x place u v b l h e f =
      let a = onto_set x place u b (omega (arith, l, h)) e in
      onto_wider (onto_then a (onto_set (set x place u) (place + 1) v a.below (omega (arith, l, h, a.same_length)) f))
      (λ i s. inl (⊎_elim (λ t. inl (span_one place i t)) (λ t. inr (span_one (place + 1) i t)) (span_split place 1 1 i s)))

  -- a word that is an operand
  module _ (place u v : ℕ) (w : List ℕ) (o : Operand) (g : Worded w) (is : operand_of w ≡ o) (h : place + 1 < element_words) (e : u ≡ at el place) (f : v ≡ at el (place + 1)) where
    operand_as : ((x : List ℕ) (p q : ℕ) → keep_operand o place p q x ≡ passed_to q (set (set x place u) (place + operand_number) v)) → Reads el (operand place) w may_follow (Span place 2)
    operand_as kept =
        record {
          reads = λ text rest x from d k z b. (
            set (set x place u) (place + operand_number) v,
            taken text rest x from d k ∙ ap (λ (n : Operand). keep_operand n place from (from + length w) x) is ∙ kept x from (from + length w),
            two_set x place u v b z h e f,
          );
        }
      where
        taken : (text rest x : List ℕ) (from : ℕ) → drop from text ≡ w ++ rest → may_follow rest ≡ true → operand place text from x ≡ keep_operand (operand_of w) place from (from + length w) x
        taken text rest x from d k =
            unfold operand in
            word_taken text w rest from d g k (λ w p q. keep_operand (operand_of w) place p q x) (λ p. refused_at misplaced p x)

  pub reads_operand : (place : ℕ) → place + 1 < element_words → operand_fits (drop place el) ≡ true → at el (place + 1) ≤ greatest → Reads el (operand place) (shown_operand (drop place el)) may_follow (Span place 2)
  reads_operand place h fit g = go (ℕ_discrete (at (drop place el) 0) 1)
    where
      first : at (drop place el) 0 ≡ at el place
      first = get_or-drop place el 0 0 ∙ ap (at el) (add-zero place)

      second : at (drop place el) 1 ≡ at el (place + 1)
      second = get_or-drop place el 1 0

      go : Dec (at (drop place el) 0 ≡ 1) → Reads el (operand place) (shown_operand (drop place el)) may_follow (Span place 2)
      go (yes e) =
          let small = subst (λ (k : ℕ). k < fields_named) second (operand_small (drop place el) fit e) in
          reads_text (sym (operand_field (drop place el) e ∙ ap shown_field second))
          (operand_as place 1 (at el (place + 1)) (shown_field (at el (place + 1))) (Field (at el (place + 1))) (field_worded (at el (place + 1)) g) (field-operand (at el (place + 1)) small) h (sym e ∙ first) refl
          (λ x p q. unfold keep_operand in refl))
      go (no n) =
          let s = shown_spelled (at el (place + 1)) g in
          reads_text (sym (operand_constant (drop place el) n ∙ ap shown second))
          (operand_as place 0 (at el (place + 1)) (shown (at el (place + 1))) (OfNumber (at el (place + 1))) (spelled_worded s) (constant_spelled s g) h (operand-zero (drop place el) fit n ∙ first) refl
          (λ x p q. unfold keep_operand in refl))

  -- a mode
  mode_as : (w : List ℕ) (m : ℕ) → Worded w → mode_named w ≡ m → (m ≡ 0 → ⊥) → m ≡ at el mode_place → Reads el mode w may_follow (λ i. i ≡ mode_place)
  mode_as w m g is n e =
      record {
        reads = λ text rest x from d k z b. (
          set x mode_place m,
          taken text rest x from d k ∙ ap (λ (o : ℕ). keep_mode o from (from + length w) x) is ∙ kept x from (from + length w),
          onto_set x mode_place m b (omega (arith, z)) e,
        );
      }
    where
      taken : (text rest x : List ℕ) (from : ℕ) → drop from text ≡ w ++ rest → may_follow rest ≡ true → mode text from x ≡ keep_mode (mode_named w) from (from + length w) x
      taken text rest x from d k = unfold mode in word_taken text w rest from d g k (λ w p q. keep_mode (mode_named w) p q x) (λ p. refused_at misplaced p x)

      kept : (x : List ℕ) (p q : ℕ) → keep_mode m p q x ≡ passed_to q (set x mode_place m)
      kept x p q = unfold keep_mode in sym (pick_no (eqb m 0) _ _ _ (ne_eqb m 0 n) refl)

  pub reads_mode : 1 ≤ at el mode_place → at el mode_place ≤ 3 → Reads el mode (shown_mode (at el mode_place)) may_follow (λ i. i ≡ mode_place)
  reads_mode l h = go (ℕ_discrete (at el mode_place) 1) (ℕ_discrete (at el mode_place) 2)
    where
      go : Dec (at el mode_place ≡ 1) → Dec (at el mode_place ≡ 2) → Reads el mode (shown_mode (at el mode_place)) may_follow (λ i. i ≡ mode_place)
      go (yes e) t =
          reads_text (mode_a (at el mode_place) e)
          (mode_as (bytes "a") 1 (record { some = omega arith; plain = unfold each is_word is_letter is_digit between in refl }) (unfold mode_named same_bytes if◌then◌or_else◌ in refl) (λ z. omega (arith, z)) (sym e))
      go (no n) (yes e) =
          reads_text (mode_c (at el mode_place) e)
          (mode_as (bytes "na_c") 2 (record { some = omega arith; plain = unfold each is_word is_letter is_digit between in refl }) (unfold mode_named same_bytes if◌then◌or_else◌ in refl) (λ z. omega (arith, z)) (sym e))
      go (no n) (no m) =
          let e : at el mode_place ≡ 3 = omega (arith, l, h, n, m) in
          reads_text (mode_nc (at el mode_place) e)
          (mode_as (bytes "na_nc") 3 (record { some = omega arith; plain = unfold each is_word is_letter is_digit between in refl }) (unfold mode_named same_bytes if◌then◌or_else◌ in refl) (λ z. omega (arith, z)) (sym e))

-- an operand's text is a word, but neither `true` nor `default`
pub operand_worded : (x : List ℕ) → at x 1 ≤ greatest → Worded (shown_operand x)
operand_worded x g = go (ℕ_discrete (at x 0) 1)
  where
    go : Dec (at x 0 ≡ 1) → Worded (shown_operand x)
    go (yes e) = subst Worded (sym (operand_field x e)) (field_worded (at x 1) g)
    go (no n) = subst Worded (sym (operand_constant x n)) (spelled_worded (shown_spelled (at x 1) g))

pub worded_opens : (s : ℕ) (w : List ℕ) → Worded w → opens s w ≡ true
unfolding opens
worded_opens s [] g = absurd (omega (arith, g.some))
worded_opens s (b ∷ w) g = rw (and_left (is_word b) (each is_word w) (unfold each in g.plain))

first_differs : (w v : List ℕ) (b : ℕ) → (at w 0 ≡ b → ⊥) → same_bytes w (b ∷ v) ≡ false
unfolding same_bytes
first_differs [] v b n = refl
first_differs (c ∷ w) v b n = rw (ne_eqb c b n)

pub operand_not_true : (x : List ℕ) → at x 1 ≤ greatest → same_bytes (shown_operand x) (bytes "true") ≡ false
operand_not_true x g = go (ℕ_discrete (at x 0) 1)
  where
    go : Dec (at x 0 ≡ 1) → same_bytes (shown_operand x) (bytes "true") ≡ false
    go (yes e) =
        ap (λ (w : List ℕ). same_bytes w (bytes "true")) (operand_field x e)
        ∙ field_either (λ (w : List ℕ). same_bytes w (bytes "true") ≡ false) (at x 1)
        (λ l. first_differs (100 ∷ shown (at x 1)) (bytes "rue") 116 (λ z. omega (arith, z)))
        (λ l. first_differs (115 ∷ shown (at x 1 - fields)) (bytes "rue") 116 (λ z. omega (arith, z)))
    go (no n) =
        ap (λ (w : List ℕ). same_bytes w (bytes "true")) (operand_constant x n)
        ∙ first_differs (shown (at x 1)) (bytes "rue") 116 (λ z. omega (arith, z, (spelled_first (shown_spelled (at x 1) g)).2))

pub operand_not_default : (x : List ℕ) → at x 1 ≤ greatest → same_bytes (shown_operand x) (bytes "default") ≡ false
operand_not_default x g = go (ℕ_discrete (at x 0) 1)
  where
    go : Dec (at x 0 ≡ 1) → same_bytes (shown_operand x) (bytes "default") ≡ false
    go (yes e) =
        ap (λ (w : List ℕ). same_bytes w (bytes "default")) (operand_field x e)
        ∙ field_either (λ (w : List ℕ). same_bytes w (bytes "default") ≡ false) (at x 1)
        (λ l. unfold same_bytes in first_differs (shown (at x 1)) (bytes "fault") 101 (λ z. omega (arith, z, (spelled_first (shown_spelled (at x 1) g)).2)))
        (λ l. first_differs (115 ∷ shown (at x 1 - fields)) (bytes "efault") 100 (λ z. omega (arith, z)))
    go (no n) =
        ap (λ (w : List ℕ). same_bytes w (bytes "default")) (operand_constant x n)
        ∙ first_differs (shown (at x 1)) (bytes "efault") 100 (λ z. omega (arith, z, (spelled_first (shown_spelled (at x 1) g)).2))
