-- EXPRESSIONS, ITEMS AND CONDITIONS READ BACK. Assumes nothing.
use Prim.Native.Nat.{ℕ, ◌+◌, ◌<◌, ◌≤◌}
use mathlib.Core.Path.{◌≡◌, ◌∙◌, refl, sym, ap, subst}
use mathlib.Core.Bool.{Bool, true, ◌&&◌}
use mathlib.Core.List.{List, [], ◌∷◌, ◌++◌, append_assoc, append-nil}
use mathlib.Core.Logic.{◌⊎◌, inl, inr, ⊎_elim}
use native.Mathlib.Decide.{ℕ_discrete, dec_lt}
use native.Mathlib.Omega.{arith}
use lib.ListN.{length, drop, set}
use lib.Seq.{get_or-drop, drop-drop}
use Rattle.base_words.specs.Counts.{fields_named}
use Rattle.base_words.specs.Each.{each}
use Rattle.base_words.specs.Pick.{if◌then◌or_else◌}
use Rattle.base_words.specs.Text.{bytes}
use Rattle.base_words.specs.Words.{at, greatest}
use Rattle.base_words.proofs.PickLaws.{pick_yes, pick_no, and_true, and_false_right}
use Rattle.base_table.specs.Places.{element_words, form_place, left_place, right_place}
use Rattle.check_limits.specs.Limits.{zeros, operand_fits, expression_fits, item_fits, condition_fits}
use Rattle.text_lexer.specs.Lexer.{is_word, is_sign}
use Rattle.base_bytes.specs.Bytes.{is_letter, is_digit, between, among}
use Rattle.base_bytes.specs.Bytes.{same_bytes}
use Rattle.text_readers.specs.Reading.{Parsed, Reader, misplaced, passed_to, refused_at, ◌then◌, operand}
use Rattle.text_parts.specs.Parts.{store, joint, expression, bind, template_item, comparison, condition}
use Rattle.write_shown.specs.Shown.{shown_field, shown_operand, shown_expression, shown_item, shown_condition}
use Rattle.proof_roundtrip.specs.Trip.{may_follow, may_close}
use Rattle.proof_roundtrip.proofs.ReadsLaws.{Reads, Both, anything, onto_set, onto_wider, reads_text, reads_before, reads_wider, reads_as, reads_then, reads_store}
use Rattle.proof_roundtrip.proofs.SignReads.{opens, opens_on, reads_sign, reads_hit, reads_miss, closes_stops, closes_no_plus, closes_no_minus, sign_stops}
use Rattle.proof_roundtrip.proofs.NumberReads.{Span, span_one, span_split, Worded, word_taken, reads_field, reads_operand, operand_worded, operand_not_true, operand_not_default}
use Rattle.proof_roundtrip.proofs.ExpressionLaws.{zeros_at, text_plus, text_minus, text_single, fits_single, fits_pair, expression_opens, text_bind, text_item, fits_bind, fits_item, sent_item, text_always, text_default, text_equals, text_below, fits_always, fits_default, fits_compared}

-- the five words: the form, and two operands
five : (place i : ℕ) → Span place 5 i → Both (Span (place + 1) 2) (Both (λ i. i ≡ place + 0) (Span (place + 3) 2)) i
five place i s = go (ℕ_discrete i (place + 0)) (dec_lt i (place + 3))
  where
    go : Dec (i ≡ place + 0) → Dec (i < place + 3) → Both (Span (place + 1) 2) (Both (λ i. i ≡ place + 0) (Span (place + 3) 2)) i
    go (yes e) t = inr (inl e)
    go (no n) (yes l) = inl (omega (arith, n, s.0), omega (arith, l))
    go (no n) (no l) = inr (inr (omega (arith, l), omega (arith, s.1)))

module _ (el : List ℕ) (small : (i : ℕ) → at el i ≤ greatest) (place : ℕ) (h : place + 4 < element_words) where
  form : at (drop place el) 0 ≡ at el (place + 0)
  form = get_or-drop place el 0 0

  -- the words from one of its places on, and an operand there
  part : (k : ℕ) → drop k (drop place el) ≡ drop (place + k) el
  part k = drop-drop k place el

  reads_side : (k : ℕ) → k ≤ right_place → operand_fits (drop k (drop place el)) ≡ true → Reads el (operand (place + k)) (shown_operand (drop k (drop place el))) may_follow (Span (place + k) 2)
  reads_side k l fit = reads_text (ap shown_operand (sym (part k))) (reads_operand (place + k) (omega (arith, h, l)) (ap operand_fits (sym (part k)) ∙ fit) (small (place + k + 1)))

  left_small : at (drop 1 (drop place el)) 1 ≤ greatest
  left_small = rw (part 1, get_or-drop) (small (place + 1 + 1))

  reads_form : (v : ℕ) → at (drop place el) 0 ≡ v → Reads el (store (place + form_place) v) [] anything (λ i. i ≡ place + 0)
  reads_form v e = reads_store (place + 0) v (omega (arith, h)) (sym e ∙ form)

  -- behind a sign: the form stored, and the operand on the right
  reads_other : (v : ℕ) → at (drop place el) 0 ≡ v → operand_fits (drop 3 (drop place el)) ≡ true
      → Reads el (store (place + form_place) v then operand (place + right_place)) (shown_operand (drop 3 (drop place el))) may_follow (Both (λ i. i ≡ place + 0) (Span (place + 3) 2))
  reads_other v e fit = reads_then (reads_form v e) (reads_side right_place (omega arith) fit) (λ rest k. refl)

  -- two operands joined by a sign
  reads_pair : (s : ℕ) {J : Reader} → is_sign s ≡ true → operand_fits (drop 1 (drop place el)) ≡ true
      → Reads el J (s ∷ shown_operand (drop 3 (drop place el))) may_follow (Both (λ i. i ≡ place + 0) (Span (place + 3) 2))
      → Reads el (operand (place + left_place) then J) (shown_operand (drop 1 (drop place el)) ++ (s ∷ shown_operand (drop 3 (drop place el)))) may_follow (Span place 5)
  reads_pair s i fit j =
      reads_wider (λ i k. inl (five place i k)) (reads_then (reads_side left_place (omega arith) fit) j (λ rest k. sign_stops s (shown_operand (drop 3 (drop place el)) ++ rest) i))

  -- EXPRESSIONS
  reads_plus : at (drop place el) 0 ≡ 2 → operand_fits (drop 3 (drop place el)) ≡ true
      → Reads el (joint place) (43 ∷ shown_operand (drop 3 (drop place el))) may_follow (Both (λ i. i ≡ place + 0) (Span (place + 3) 2))
  unfolding joint
  reads_plus e fit = reads_hit 43 _ (unfold is_sign among in refl) (reads_other 2 e fit)

  reads_minus : at (drop place el) 0 ≡ 3 → operand_fits (drop 3 (drop place el)) ≡ true
      → Reads el (joint place) (45 ∷ shown_operand (drop 3 (drop place el))) may_follow (Both (λ i. i ≡ place + 0) (Span (place + 3) 2))
  unfolding joint
  reads_minus e fit =
      reads_miss 43 _ (λ rest k. unfold opens is_sign among is_word is_letter is_digit between in refl) (reads_hit 45 _ (unfold is_sign among in refl) (reads_other 3 e fit))

  reads_none : at (drop place el) 0 ≡ 1 → Reads el (joint place) [] may_close (λ i. i ≡ place + 0)
  unfolding joint
  reads_none e =
      reads_miss 43 _ (λ rest k. closes_no_plus rest k) (reads_miss 45 _ (λ rest k. closes_no_minus rest k) (reads_before (λ rest k. refl) (reads_form 1 e)))

  -- the words on the right, where they are not in use
  no_right : zeros (drop 3 (drop place el)) 2 ≡ true → (i : ℕ) → Span (place + 3) 2 i → at el i ≡ 0
  no_right z i s = zeros_at el (place + 3) 2 (ap (λ (x : List ℕ). zeros x 2) (sym (part right_place)) ∙ z) i s

  reads_single : at (drop place el) 0 ≡ 1 → operand_fits (drop 1 (drop place el)) ≡ true → zeros (drop 3 (drop place el)) 2 ≡ true
      → Reads el (operand (place + left_place) then joint place) (shown_operand (drop 1 (drop place el)) ++ []) may_close (Span place 5)
  reads_single e fit z =
      reads_wider
      (λ i s. ⊎_elim (λ a. inl (inl a)) (⊎_elim (λ a. inl (inr a)) (λ a. inr (no_right z i a))) (five place i s))
      (reads_then (reads_side left_place (omega arith) fit) (reads_none e) (λ rest k. closes_stops rest k))

  pub reads_expression : expression_fits (drop place el) ≡ true → Reads el (expression place) (shown_expression (drop place el)) may_close (Span place 5)
  unfolding expression
  reads_expression fit = go (ℕ_discrete (at (drop place el) 0) 1) (ℕ_discrete (at (drop place el) 0) 2)
    where
      go : Dec (at (drop place el) 0 ≡ 1) → Dec (at (drop place el) 0 ≡ 2) → Reads el (operand (place + left_place) then joint place) (shown_expression (drop place el)) may_close (Span place 5)
      go (yes e) t =
          let f = fits_single (drop place el) fit e in
          reads_text (append-nil (shown_operand (drop 1 (drop place el))) ∙ text_single (drop place el) (λ z. omega (arith, z, e)) (λ z. omega (arith, z, e))) (reads_single e f.0 f.1)
      go (no n) (yes e) =
          let f = fits_pair (drop place el) fit n in
          reads_before closes_stops (reads_text (text_plus (drop place el) e) (reads_pair 43 (unfold is_sign among in refl) f.2 (reads_plus e f.3)))
      go (no n) (no m) =
          let f = fits_pair (drop place el) fit n in
          let e : at (drop place el) 0 ≡ 3 = omega (arith, m, f.0, f.1) in
          reads_before closes_stops (reads_text (text_minus (drop place el) e) (reads_pair 45 (unfold is_sign among in refl) f.2 (reads_minus e f.3)))

  -- ITEMS
  reads_bind : at (drop place el) 0 ≡ 4 → at (drop place el) 1 ≡ 1 → at (drop place el) 2 < fields_named → zeros (drop 3 (drop place el)) 2 ≡ true
      → Reads el (bind place) (shown_field (at (drop place el) 2)) may_follow (Span place 5)
  unfolding bind
  reads_bind e f l z =
      reads_wider region
      (reads_text (ap (λ (k : ℕ). shown_field k) (sym field_is))
      (reads_then (reads_form 4 e)
      (reads_then (reads_store (place + 1) 1 (omega (arith, h)) (sym f ∙ get_or-drop place el 1 0))
      (reads_field (place + 1 + 1) (omega (arith, h)) (subst (λ (k : ℕ). k < fields_named) field_is l))
      (λ rest k. refl))
      (λ rest k. refl)))
    where
      field_is : at (drop place el) 2 ≡ at el (place + 1 + 1)
      field_is = get_or-drop place el 2 0 ∙ ap (at el) (let q : place + 2 ≡ place + 1 + 1 = omega arith in q)

      region : (i : ℕ) → Span place 5 i → Both (λ i. i ≡ place + 0) (Both (λ i. i ≡ place + 1) (λ i. i ≡ place + 1 + 1)) i ⊎ (at el i ≡ 0)
      region i s =
          ⊎_elim (λ a. inl (inr (⊎_elim (λ b. inl (span_one (place + 1) i b)) (λ b. inr (span_one (place + 1 + 1) i b)) (span_split (place + 1) 1 1 i a))))
          (⊎_elim (λ a. inl (inl a)) (λ a. inr (no_right z i a))) (five place i s)

  pub reads_item : (receives : ℕ) → item_fits receives (drop place el) ≡ true → Reads el (template_item place) (shown_item (drop place el)) may_close (Span place 5)
  unfolding template_item
  reads_item receives fit = go (ℕ_discrete (at (drop place el) 0) 4)
    where
      go : Dec (at (drop place el) 0 ≡ 4) → Reads el (template_item place) (shown_item (drop place el)) may_close (Span place 5)
      go (yes e) =
          let f = fits_bind (drop place el) receives fit e in
          reads_before closes_stops (reads_text (text_bind (drop place el) e) (reads_hit 63 (expression place) (unfold is_sign among in refl) (reads_bind e f.1 f.2 f.3)))
      go (no n) =
          reads_miss 63 _ (λ rest k. ap (λ (w : List ℕ). opens 63 (w ++ rest)) (sym (text_item (drop place el) n)) ∙ opens_on 63 (shown_expression (drop place el)) rest (expression_opens (drop place el) 63 left_small))
          (reads_text (text_item (drop place el) n) (reads_expression (fits_item (drop place el) receives fit n)))

  -- an item that is sent binds nothing
  pub reads_sent : item_fits 0 (drop place el) ≡ true → Reads el (expression place) (shown_item (drop place el)) may_close (Span place 5)
  reads_sent fit =
      let n = sent_item (drop place el) fit in
      reads_text (text_item (drop place el) n) (reads_expression (fits_item (drop place el) 0 fit n))

  -- CONDITIONS
  reads_equals : at (drop place el) 0 ≡ 3 → operand_fits (drop 3 (drop place el)) ≡ true
      → Reads el (comparison place) (61 ∷ shown_operand (drop 3 (drop place el))) may_follow (Both (λ i. i ≡ place + 0) (Span (place + 3) 2))
  unfolding comparison
  reads_equals e fit = reads_hit 61 _ (unfold is_sign among in refl) (reads_other 3 e fit)

  reads_below : at (drop place el) 0 ≡ 4 → operand_fits (drop 3 (drop place el)) ≡ true
      → Reads el (comparison place) (60 ∷ shown_operand (drop 3 (drop place el))) may_follow (Both (λ i. i ≡ place + 0) (Span (place + 3) 2))
  unfolding comparison
  reads_below e fit =
      reads_miss 61 _ (λ rest k. unfold opens is_sign among is_word is_letter is_digit between in refl)
      (reads_wider (λ i s. inl (inr s)) (reads_then (reads_sign 60 (unfold is_sign among in refl)) (reads_other 4 e fit) (λ rest k. refl)))

  -- by the word that it begins with
  module _ (defaults : Bool) where
    chosen : List ℕ → ℕ → List ℕ → ℕ → List ℕ → Parsed
    chosen text from w q x =
        if same_bytes w (bytes "true") then passed_to q (set x (place + form_place) 1)
        or_else if defaults && same_bytes w (bytes "default") then passed_to q (set x (place + form_place) 2)
        or_else (operand (place + left_place) then comparison place) text from x

    condition_taken : (text rest x w : List ℕ) (from : ℕ) → drop from text ≡ w ++ rest → Worded w → may_follow rest ≡ true → condition defaults place text from x ≡ chosen text from w (from + length w) x
    unfolding condition chosen
    condition_taken text rest x w from d g k = word_taken text w rest from d g k (λ w p q. chosen text from w q x) (λ p. refused_at misplaced p x)

    -- `true` and `default`
    condition_named : (w : List ℕ) (v : ℕ) → Worded w → ((text x : List ℕ) (from q : ℕ) → chosen text from w q x ≡ passed_to q (set x (place + form_place) v)) → at (drop place el) 0 ≡ v → zeros (drop 1 (drop place el)) 4 ≡ true
        → Reads el (condition defaults place) w may_follow (Span place 5)
    condition_named w v g c e z =
        reads_wider (λ i s. ⊎_elim (λ a. inl (span_one place i a)) (λ a. inr (zeros_at el (place + 1) 4 (ap (λ (x : List ℕ). zeros x 4) (sym (part left_place)) ∙ z) i a)) (span_split place 1 4 i s))
        (record {
          reads = λ text rest x from d k l b.
              (set x (place + 0) v, condition_taken text rest x w from d g k ∙ c text x from (from + length w), onto_wider (onto_set x (place + 0) v b (omega (arith, h, l)) (sym e ∙ form)) (λ i s. inl (s ∙ (let q : place ≡ place + 0 = omega arith in q))));
        })

    condition-true : at (drop place el) 0 ≡ 1 → zeros (drop 1 (drop place el)) 4 ≡ true → Reads el (condition defaults place) (bytes "true") may_follow (Span place 5)
    condition-true e z =
        condition_named (bytes "true") 1 (record { some = omega arith; plain = unfold each is_word is_letter is_digit between in refl })
        (λ text x from q. unfold chosen in sym (pick_yes (same_bytes (bytes "true") (bytes "true")) _ _ _ (unfold same_bytes in refl) refl)) e z

    condition_default : defaults ≡ true → at (drop place el) 0 ≡ 2 → zeros (drop 1 (drop place el)) 4 ≡ true → Reads el (condition defaults place) (bytes "default") may_follow (Span place 5)
    condition_default t e z =
        condition_named (bytes "default") 2 (record { some = omega arith; plain = unfold each is_word is_letter is_digit between in refl })
        (λ text x from q.
        unfold chosen in
        sym (pick_no (same_bytes (bytes "default") (bytes "true")) _ _ _ (unfold same_bytes in refl)
        (pick_yes (defaults && same_bytes (bytes "default") (bytes "default")) _ _ _ (and_true _ _ t (unfold same_bytes in refl)) refl))) e z

    -- two operands compared
    condition_third : (text x : List ℕ) (from q : ℕ) → chosen text from (shown_operand (drop 1 (drop place el))) q x ≡ (operand (place + left_place) then comparison place) text from x
    unfolding chosen
    condition_third text x from q =
        sym (pick_no (same_bytes (shown_operand (drop 1 (drop place el))) (bytes "true")) _ _ _ (operand_not_true (drop 1 (drop place el)) left_small)
        (pick_no (defaults && same_bytes (shown_operand (drop 1 (drop place el))) (bytes "default")) _ _ _
        (and_false_right defaults (same_bytes (shown_operand (drop 1 (drop place el))) (bytes "default")) (operand_not_default (drop 1 (drop place el)) left_small)) refl))

    condition_compared : (s : ℕ) → is_sign s ≡ true → operand_fits (drop 1 (drop place el)) ≡ true
        → Reads el (comparison place) (s ∷ shown_operand (drop 3 (drop place el))) may_follow (Both (λ i. i ≡ place + 0) (Span (place + 3) 2))
        → Reads el (condition defaults place) (shown_operand (drop 1 (drop place el)) ++ (s ∷ shown_operand (drop 3 (drop place el)))) may_follow (Span place 5)
    condition_compared s i fit c = reads_as same (reads_pair s i fit c)
      where
        same : (text rest x : List ℕ) (from : ℕ) → drop from text ≡ (shown_operand (drop 1 (drop place el)) ++ (s ∷ shown_operand (drop 3 (drop place el)))) ++ rest → may_follow rest ≡ true
            → condition defaults place text from x ≡ (operand (place + left_place) then comparison place) text from x
        same text rest x from d k =
            condition_taken text (s ∷ (shown_operand (drop 3 (drop place el)) ++ rest)) x (shown_operand (drop 1 (drop place el))) from
            (d ∙ append_assoc (shown_operand (drop 1 (drop place el))) (s ∷ shown_operand (drop 3 (drop place el))) rest)
            (operand_worded (drop 1 (drop place el)) left_small) (sign_stops s (shown_operand (drop 3 (drop place el)) ++ rest) i)
            ∙ condition_third text x from (from + length (shown_operand (drop 1 (drop place el))))

    pub reads_condition : (conditions : ℕ) → (conditions ≡ 2 → defaults ≡ true) → condition_fits conditions (drop place el) ≡ true → Reads el (condition defaults place) (shown_condition (drop place el)) may_follow (Span place 5)
    reads_condition conditions t fit = go (ℕ_discrete (at (drop place el) 0) 1) (ℕ_discrete (at (drop place el) 0) 2) (ℕ_discrete (at (drop place el) 0) 3)
      where
        go : Dec (at (drop place el) 0 ≡ 1) → Dec (at (drop place el) 0 ≡ 2) → Dec (at (drop place el) 0 ≡ 3) → Reads el (condition defaults place) (shown_condition (drop place el)) may_follow (Span place 5)
        go (yes e) b c = reads_text (text_always (drop place el) e) (condition-true e (fits_always (drop place el) conditions fit e))
        go (no n) (yes e) c =
            let f = fits_default (drop place el) conditions fit e in
            reads_text (text_default (drop place el) e) (condition_default (t f.0) e f.1)
        go (no n) (no m) (yes e) =
            let f = fits_compared (drop place el) conditions fit n m in
            reads_text (text_equals (drop place el) e) (condition_compared 61 (unfold is_sign among in refl) f.2 (reads_equals e f.3))
        go (no n) (no m) (no o) =
            let f = fits_compared (drop place el) conditions fit n m in
            let e : at (drop place el) 0 ≡ 4 = omega (arith, o, f.0, f.1) in
            reads_text (text_below (drop place el) e) (condition_compared 60 (unfold is_sign among in refl) f.2 (reads_below e f.3))
