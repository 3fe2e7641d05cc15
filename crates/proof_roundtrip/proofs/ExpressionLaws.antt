-- Expressions, items and conditions by their form: their text, and what their limits say. Assumes nothing.
use Prim.Native.Nat.{ℕ, ◌+◌, ◌-◌, ◌<◌, ◌≤◌}
use mathlib.Core.Path.{◌≡◌, ◌∙◌, refl, sym, ap}
use mathlib.Core.Bool.{Bool, true, false, ◌&&◌, false≢true}
use mathlib.Core.List.{List, ◌∷◌, ◌++◌}
use native.Mathlib.Decide.{ℕ_discrete}
use native.Mathlib.Omega.{arith}
use lib.Dec.{eqb, leb, ltb}
use lib.ListN.{drop}
use lib.Seq.{get_or-drop}
use borrow.Author.Tests.{eq-eqb, ne_eqb, eqb-true, eqb-false, ltb-true, leb-true}
use Rattle.base_words.specs.Counts.{fields_named}
use Rattle.base_words.specs.Pick.{if◌then◌or_else◌}
use Rattle.base_words.specs.Text.{bytes}
use Rattle.base_words.specs.Words.{at, greatest}
use Rattle.base_words.proofs.AllLaws.{all_at, and_left, and_right}
use Rattle.base_words.proofs.PickLaws.{pick_yes, pick_no}
use Rattle.check_limits.specs.Limits.{zeros, operand_fits, expression_fits, bind_fits, item_fits, condition_fits}
use Rattle.write_shown.specs.Shown.{shown_field, shown_operand, shown_pair, shown_expression, shown_item, shown_condition}
use Rattle.proof_roundtrip.proofs.NumberReads.{Span, then_of, else_of, operand_worded, worded_opens}
use Rattle.proof_roundtrip.proofs.SignReads.{opens, opens_on}

-- words that are 0
pub zeros_at : (el : List ℕ) (a n : ℕ) → zeros (drop a el) n ≡ true → (i : ℕ) → Span a n i → at el i ≡ 0
unfolding zeros
zeros_at el a n h i s =
    let e : a + (i - a) ≡ i = omega (arith, s.0) in
    ap (at el) (sym e) ∙ sym (get_or-drop a el (i - a) 0)
    ∙ eqb-true (at (drop a el) (i - a)) 0 (all_at (λ k. eqb (at (drop a el) k) 0) n h (i - a) (omega (arith, s.0, s.1)))

module _ (x : List ℕ) where
  -- EXPRESSIONS
  pub text_plus : at x 0 ≡ 2 → shown_operand (drop 1 x) ++ (43 ∷ shown_operand (drop 3 x)) ≡ shown_expression x
  unfolding shown_expression shown_pair
  text_plus e = pick_yes _ _ _ _ (eq-eqb (at x 0) 2 e) refl

  pub text_minus : at x 0 ≡ 3 → shown_operand (drop 1 x) ++ (45 ∷ shown_operand (drop 3 x)) ≡ shown_expression x
  unfolding shown_expression shown_pair
  text_minus e = pick_no _ _ _ _ (ne_eqb (at x 0) 2 (λ z. omega (arith, z, e))) (pick_yes _ _ _ _ (eq-eqb (at x 0) 3 e) refl)

  pub text_single : (at x 0 ≡ 2 → ⊥) → (at x 0 ≡ 3 → ⊥) → shown_operand (drop 1 x) ≡ shown_expression x
  unfolding shown_expression
  text_single n m = pick_no _ _ _ _ (ne_eqb (at x 0) 2 n) (pick_no _ _ _ _ (ne_eqb (at x 0) 3 m) refl)

  pub fits_single : expression_fits x ≡ true → at x 0 ≡ 1 → (operand_fits (drop 1 x) ≡ true) × (zeros (drop 3 x) 2 ≡ true)
  unfolding expression_fits
  fits_single fit e =
      let h = then_of _ _ _ _ fit (eq-eqb (at x 0) 1 e) in
      (and_left (operand_fits (drop 1 x)) (zeros (drop 3 x) 2) h, and_right (operand_fits (drop 1 x)) (zeros (drop 3 x) 2) h)

  pub fits_pair : expression_fits x ≡ true → (at x 0 ≡ 1 → ⊥) → (2 ≤ at x 0) × (at x 0 ≤ 3) × (operand_fits (drop 1 x) ≡ true) × (operand_fits (drop 3 x) ≡ true)
  unfolding expression_fits
  fits_pair fit n =
      let h = else_of _ _ _ _ fit (ne_eqb (at x 0) 1 n) in
      let b = and_left (leb 2 (at x 0) && leb (at x 0) 3 && operand_fits (drop 1 x)) (operand_fits (drop 3 x)) h in
      let w = and_left (leb 2 (at x 0) && leb (at x 0) 3) (operand_fits (drop 1 x)) b in (
        leb-true 2 (at x 0) (and_left (leb 2 (at x 0)) (leb (at x 0) 3) w),
        leb-true (at x 0) 3 (and_right (leb 2 (at x 0)) (leb (at x 0) 3) w),
        and_right (leb 2 (at x 0) && leb (at x 0) 3) (operand_fits (drop 1 x)) b,
        and_right (leb 2 (at x 0) && leb (at x 0) 3 && operand_fits (drop 1 x)) (operand_fits (drop 3 x)) h,
      )

  -- its text begins with a word
  pub expression_opens : (s : ℕ) → at (drop 1 x) 1 ≤ greatest → opens s (shown_expression x) ≡ true
  expression_opens s g = go (ℕ_discrete (at x 0) 2) (ℕ_discrete (at x 0) 3)
    where
      o : opens s (shown_operand (drop 1 x)) ≡ true
      o = worded_opens s (shown_operand (drop 1 x)) (operand_worded (drop 1 x) g)

      go : Dec (at x 0 ≡ 2) → Dec (at x 0 ≡ 3) → opens s (shown_expression x) ≡ true
      go (yes e) t = ap (opens s) (sym (text_plus e)) ∙ opens_on s (shown_operand (drop 1 x)) (43 ∷ shown_operand (drop 3 x)) o
      go (no n) (yes e) = ap (opens s) (sym (text_minus e)) ∙ opens_on s (shown_operand (drop 1 x)) (45 ∷ shown_operand (drop 3 x)) o
      go (no n) (no m) = ap (opens s) (sym (text_single n m)) ∙ o

  -- ITEMS
  pub text_bind : at x 0 ≡ 4 → 63 ∷ shown_field (at x 2) ≡ shown_item x
  unfolding shown_item
  text_bind e = pick_yes _ _ _ _ (eq-eqb (at x 0) 4 e) refl

  pub text_item : (at x 0 ≡ 4 → ⊥) → shown_expression x ≡ shown_item x
  unfolding shown_item
  text_item n = pick_no _ _ _ _ (ne_eqb (at x 0) 4 n) refl

  pub fits_bind : (receives : ℕ) → item_fits receives x ≡ true → at x 0 ≡ 4 → (receives ≡ 0 → ⊥) × (at x 1 ≡ 1) × (at x 2 < fields_named) × (zeros (drop 3 x) 2 ≡ true)
  unfolding item_fits bind_fits
  fits_bind receives fit e = go (eqb receives 0) refl (then_of _ _ _ _ fit (eq-eqb (at x 0) 4 e))
    where
      go : (t : Bool) → eqb receives 0 ≡ t → (if eqb receives 0 then false or_else eqb (at x 1) 1 && ltb (at x 2) fields_named && zeros (drop 3 x) 2) ≡ true
          → (receives ≡ 0 → ⊥) × (at x 1 ≡ 1) × (at x 2 < fields_named) × (zeros (drop 3 x) 2 ≡ true)
      go true q h = absurd (false≢true (then_of _ _ _ _ h q))
      go false q h =
          let k = else_of _ _ _ _ h q in
          let a = and_left (eqb (at x 1) 1 && ltb (at x 2) fields_named) (zeros (drop 3 x) 2) k in (
            eqb-false receives 0 q,
            eqb-true (at x 1) 1 (and_left (eqb (at x 1) 1) (ltb (at x 2) fields_named) a),
            ltb-true (at x 2) fields_named (and_right (eqb (at x 1) 1) (ltb (at x 2) fields_named) a),
            and_right (eqb (at x 1) 1 && ltb (at x 2) fields_named) (zeros (drop 3 x) 2) k,
          )

  pub fits_item : (receives : ℕ) → item_fits receives x ≡ true → (at x 0 ≡ 4 → ⊥) → expression_fits x ≡ true
  unfolding item_fits
  fits_item receives fit n = else_of _ _ _ _ fit (ne_eqb (at x 0) 4 n)

  -- where nothing is received, nothing is bound
  pub sent_item : item_fits 0 x ≡ true → at x 0 ≡ 4 → ⊥
  sent_item fit e = (fits_bind 0 fit e).0 refl

  -- CONDITIONS
  pub text_always : at x 0 ≡ 1 → bytes "true" ≡ shown_condition x
  unfolding shown_condition
  text_always e = pick_yes _ _ _ _ (eq-eqb (at x 0) 1 e) refl

  pub text_default : at x 0 ≡ 2 → bytes "default" ≡ shown_condition x
  unfolding shown_condition
  text_default e = pick_no _ _ _ _ (ne_eqb (at x 0) 1 (λ z. omega (arith, z, e))) (pick_yes _ _ _ _ (eq-eqb (at x 0) 2 e) refl)

  pub text_equals : at x 0 ≡ 3 → shown_operand (drop 1 x) ++ (61 ∷ shown_operand (drop 3 x)) ≡ shown_condition x
  unfolding shown_condition shown_pair
  text_equals e =
      pick_no _ _ _ _ (ne_eqb (at x 0) 1 (λ z. omega (arith, z, e)))
      (pick_no _ _ _ _ (ne_eqb (at x 0) 2 (λ z. omega (arith, z, e))) (pick_yes _ _ _ _ (eq-eqb (at x 0) 3 e) refl))

  pub text_below : at x 0 ≡ 4 → shown_operand (drop 1 x) ++ (60 ∷ shown_operand (drop 3 x)) ≡ shown_condition x
  unfolding shown_condition shown_pair
  text_below e =
      pick_no _ _ _ _ (ne_eqb (at x 0) 1 (λ z. omega (arith, z, e)))
      (pick_no _ _ _ _ (ne_eqb (at x 0) 2 (λ z. omega (arith, z, e))) (pick_no _ _ _ _ (ne_eqb (at x 0) 3 (λ z. omega (arith, z, e))) refl))

  pub fits_always : (conditions : ℕ) → condition_fits conditions x ≡ true → at x 0 ≡ 1 → zeros (drop 1 x) 4 ≡ true
  unfolding condition_fits
  fits_always conditions fit e = then_of _ _ _ _ fit (eq-eqb (at x 0) 1 e)

  pub fits_default : (conditions : ℕ) → condition_fits conditions x ≡ true → at x 0 ≡ 2 → (conditions ≡ 2) × (zeros (drop 1 x) 4 ≡ true)
  unfolding condition_fits
  fits_default conditions fit e =
      let h = then_of _ _ _ _ (else_of _ _ _ _ fit (ne_eqb (at x 0) 1 (λ z. omega (arith, z, e)))) (eq-eqb (at x 0) 2 e) in
      (eqb-true conditions 2 (and_left (eqb conditions 2) (zeros (drop 1 x) 4) h), and_right (eqb conditions 2) (zeros (drop 1 x) 4) h)

  pub fits_compared : (conditions : ℕ) → condition_fits conditions x ≡ true → (at x 0 ≡ 1 → ⊥) → (at x 0 ≡ 2 → ⊥) → (3 ≤ at x 0) × (at x 0 ≤ 4) × (operand_fits (drop 1 x) ≡ true) × (operand_fits (drop 3 x) ≡ true)
  unfolding condition_fits
  fits_compared conditions fit n m =
      let h = else_of _ _ _ _ (else_of _ _ _ _ fit (ne_eqb (at x 0) 1 n)) (ne_eqb (at x 0) 2 m) in
      let b = and_left (leb 3 (at x 0) && leb (at x 0) 4 && operand_fits (drop 1 x)) (operand_fits (drop 3 x)) h in
      let w = and_left (leb 3 (at x 0) && leb (at x 0) 4) (operand_fits (drop 1 x)) b in (
        leb-true 3 (at x 0) (and_left (leb 3 (at x 0)) (leb (at x 0) 4) w),
        leb-true (at x 0) 4 (and_right (leb 3 (at x 0)) (leb (at x 0) 4) w),
        and_right (leb 3 (at x 0) && leb (at x 0) 4) (operand_fits (drop 1 x)) b,
        and_right (leb 3 (at x 0) && leb (at x 0) 4 && operand_fits (drop 1 x)) (operand_fits (drop 3 x)) h,
      )
