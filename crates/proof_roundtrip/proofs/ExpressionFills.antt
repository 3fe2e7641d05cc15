-- Expressions, items, conditions and assignments stored. Assumes nothing.
use Prim.Native.Char.{code}
use Prim.Native.Nat.{ℕ, ◌+◌, ◌≤◌, ◌<◌}
use mathlib.Core.Path.{◌≡◌, ◌∙◌, refl, sym, ap}
use mathlib.Core.Bool.{Bool, true, false, ◌&&◌}
use mathlib.Core.List.{List}
use mathlib.Core.Logic.{◌⊎◌, inl, inr, ⊎_elim}
use native.Mathlib.Decide.{ℕ_discrete}
use native.Mathlib.Omega.{arith}
use lib.Dec.{eqb, ltb}
use lib.ListN.{length, drop}
use lib.Seq.{get_or-drop, drop-drop}
use borrow.Author.Tests.{eq-eqb, ne_eqb, le-leb, lt-ltb}
use Rattle.base_words.specs.Counts.{fields_named}
use Rattle.base_words.specs.Pick.{if◌then◌or_else◌}
use Rattle.base_words.specs.Text.{bytes}
use Rattle.base_words.specs.Words.{at, greatest}
use Rattle.base_words.proofs.AllLaws.{all_of, and_left}
use Rattle.base_words.proofs.PickLaws.{pick_no, and_true}
use Rattle.base_kinds.specs.Kinds.{none, many}
use Rattle.base_table.specs.Places.{element_words, assignment_place}
use Rattle.check_limits.specs.Limits.{zeros, operand_fits, expression_fits, bind_fits, item_fits, condition_fits, assignment_fits}
use Rattle.text_lexer.specs.Lexer.{token_at}
use Rattle.base_bytes.specs.Bytes.{same_bytes}
use Rattle.std.specs.declared.result.Result.TheVariants.{Ok, Err}
use Rattle.text_readers.specs.Reading.{Read, Parsed, Reader, misplaced, passed_to, if_at, ◌then◌, place_of, behind, letters, sign_at, operand}
use Rattle.text_parts.specs.Parts.{store, joint, expression, bind, template_item, comparison, condition, assignment}
use Rattle.proof_roundtrip.proofs.ReadsLaws.{Both}
use Rattle.proof_roundtrip.proofs.NumberReads.{Span}
use Rattle.proof_roundtrip.proofs.ExpressionLaws.{fits_pair}
use Rattle.check_limits.proofs.SameLaws.{Same, zeros_same, operand_same, expression_same, item_same, condition_same, assignment_same}
use Rattle.proof_roundtrip.proofs.FillLaws.{Fills, Filled, span_region, idle_sign, idle_assign, fills_then, fills_behind, fills_wider, fills_either, fills_store}
use Rattle.proof_roundtrip.proofs.WordFills.{Ranged, word_passed, fills_field, fills_operand}

-- WORDS OF A BLOCK, as those of its tail
pub tail_same : (y z : List ℕ) (place n : ℕ) → ((i : ℕ) → Span place n i → at z i ≡ at y i) → Same n (drop place y) (drop place z)
tail_same y z place n s i l = get_or-drop place z i 0 ∙ s (place + i) (omega arith, omega (arith, l)) ∙ sym (get_or-drop place y i 0)

pub zeros_of : (y : List ℕ) (from n : ℕ) → ((i : ℕ) → from ≤ i → i < from + n → at y i ≡ 0) → zeros (drop from y) n ≡ true
unfolding zeros
zeros_of y from n h =
    all_of (λ k. eqb (at (drop from y) k) 0) n (λ k l. eq-eqb (at (drop from y) k) 0 (get_or-drop from y k 0 ∙ h (from + k) (omega arith) (omega (arith, l))))

-- A CHOICE BY A SIGN
choose : (r : Read) (f : ℕ → Parsed) (g w : Parsed) → if_at r f g ≡ w → ((a : ℕ) × (f a ≡ w)) ⊎ (g ≡ w)
unfolding if_at
choose (Ok a) f g w e = inl (a, e)
choose (Err d) f g w e = inr e

pub fills_choice : (s : ℕ) {f g : Reader} {R : ℕ → Type 0} {Q : List ℕ → Type 0} → Fills f R Q → Fills g R Q → Fills (λ text from x. if_at (sign_at s text from) (λ a. f text a x) (g text from x)) R Q
fills_choice s {f} {g} a b =
    fills_either (λ text x from q y e. ⊎_elim (λ m. inl m) (λ m. inr (from, m)) (choose (sign_at s text from) (λ k. f text k x) (g text from x) (passed_to q y) e)) a b

-- WITHIN THE LIMITS, by the form
module _ (x : List ℕ) where
  expression_single : at x 0 ≡ 1 → operand_fits (drop 1 x) ≡ true → zeros (drop 3 x) 2 ≡ true → expression_fits x ≡ true
  unfolding expression_fits if◌then◌or_else◌
  expression_single e l z = rw (e, l, z)

  expression_pair : 2 ≤ at x 0 → at x 0 ≤ 3 → operand_fits (drop 1 x) ≡ true → operand_fits (drop 3 x) ≡ true → expression_fits x ≡ true
  unfolding expression_fits if◌then◌or_else◌
  expression_pair a b l r = rw (ne_eqb (at x 0) 1 (λ e. omega (arith, e, a)), le-leb 2 (at x 0) a, le-leb (at x 0) 3 b, l, r)

  expression_low : expression_fits x ≡ true → at x 0 ≤ 3
  expression_low f = go (ℕ_discrete (at x 0) 1)
    where
      go : Dec (at x 0 ≡ 1) → at x 0 ≤ 3
      go (yes e) = omega (arith, e)
      go (no n) = (fits_pair x f n).1

  item_expression : (receives : ℕ) → expression_fits x ≡ true → item_fits receives x ≡ true
  unfolding item_fits
  item_expression receives f = sym (pick_no (eqb (at x 0) 4) _ _ _ (ne_eqb (at x 0) 4 (λ e. omega (arith, e, expression_low f))) refl) ∙ f

  item_bind : (receives : ℕ) → (receives ≡ none → ⊥) → at x 0 ≡ 4 → at x 1 ≡ 1 → at x 2 < fields_named → zeros (drop 3 x) 2 ≡ true → item_fits receives x ≡ true
  unfolding item_fits bind_fits if◌then◌or_else◌
  item_bind receives n e f d z = rw (e, f, ne_eqb receives none n, lt-ltb (at x 2) fields_named d, z)

  condition_plain : (conditions : ℕ) → at x 0 ≡ 1 → zeros (drop 1 x) 4 ≡ true → condition_fits conditions x ≡ true
  unfolding condition_fits if◌then◌or_else◌
  condition_plain conditions e z = rw (e, z)

  condition_default : (conditions : ℕ) → conditions ≡ many → at x 0 ≡ 2 → zeros (drop 1 x) 4 ≡ true → condition_fits conditions x ≡ true
  unfolding condition_fits if◌then◌or_else◌
  condition_default conditions c e z = rw (e, c, z)

  condition_pair : (conditions : ℕ) → 3 ≤ at x 0 → at x 0 ≤ 4 → operand_fits (drop 1 x) ≡ true → operand_fits (drop 3 x) ≡ true → condition_fits conditions x ≡ true
  unfolding condition_fits if◌then◌or_else◌
  condition_pair conditions a b l r =
      rw (ne_eqb (at x 0) 1 (λ e. omega (arith, e, a)), ne_eqb (at x 0) 2 (λ e. omega (arith, e, a)), le-leb 3 (at x 0) a, le-leb (at x 0) 4 b, l, r)

module _ (place : ℕ) (h : place + 5 ≤ element_words) where
  -- the form, and the right operand
  abbrev Right : ℕ → Type 0
  Right = Both (λ i. i ≡ place + 0) (Span (place + 3) 2)

  abbrev Whole : ℕ → Type 0
  Whole = Both (Span (place + 1) 2) Right

  pair : (v : ℕ) → v ≤ greatest → Fills (store (place + 0) v then operand (place + 3)) Right (λ y. (at y (place + 0) ≡ v) × (operand_fits (drop (place + 3) y) ≡ true))
  pair v g = fills_then (fills_store (place + 0) v (omega (arith, h)) g) (fills_operand (place + 3) (omega (arith, h))) (λ i e s. omega (arith, e, s.0))

  right_region : (i : ℕ) → Dec (Right i)
  right_region = (pair 0 (omega arith)).decide

  -- JOINED OPERANDS
  Joined : List ℕ → Type 0
  Joined y = ((at y (place + 0) ≡ 1) × (zeros (drop (place + 3) y) 2 ≡ true)) ⊎ ((2 ≤ at y (place + 0)) × (at y (place + 0) ≤ 3) × (operand_fits (drop (place + 3) y) ≡ true))

  joined_local : (y z : List ℕ) → ((i : ℕ) → Right i → at z i ≡ at y i) → Joined y → Joined z
  unfolding Joined
  joined_local y z s =
      let f : at z (place + 0) ≡ at y (place + 0) = s (place + 0) (inl refl) in
      let t : Same 2 (drop (place + 3) y) (drop (place + 3) z) = tail_same y z (place + 3) 2 (λ i k. s i (inr k)) in
      ⊎_elim (λ j. inl (f ∙ j.0, zeros_same (drop (place + 3) y) (drop (place + 3) z) 2 t ∙ j.1))
      (λ j. inr (omega (arith, f, j.0), omega (arith, f, j.1), operand_same (drop (place + 3) y) (drop (place + 3) z) t ∙ j.2))

  joined_pair : (v : ℕ) → 2 ≤ v → v ≤ 3 → Fills (store (place + 0) v then operand (place + 3)) Right Joined
  unfolding Joined
  joined_pair v l u = fills_wider right_region (λ i r. r) joined_local (λ y q z. inr (omega (arith, q.0, l), omega (arith, q.0, u), q.1)) (pair v (omega (arith, u)))

  joined_single : Fills (store (place + 0) 1) Right Joined
  unfolding Joined
  joined_single =
      fills_wider right_region (λ i r. inl r) joined_local
      (λ y q z. inl (q, zeros_of y (place + 3) 2 (λ i a b. z i (inr (a, b)) (λ e. omega (arith, e, a)))))
      (fills_store (place + 0) 1 (omega (arith, h)) (omega arith))

  fills_joint : Fills (joint place) Right Joined
  unfolding joint
  fills_joint = fills_choice (code "+") (joined_pair 2 (omega arith) (omega arith)) (fills_choice (code "-") (joined_pair 3 (omega arith) (omega arith)) joined_single)

  -- from the parts of a block to the block
  apart : (i : ℕ) → Span (place + 1) 2 i → Right i → ⊥
  apart i s = ⊎_elim (λ e. omega (arith, e, s.0)) (λ t. omega (arith, s.1, t.0))

  inside : (i : ℕ) → Whole i → Span place 5 i
  inside i = ⊎_elim (λ s. (omega (arith, s.0), omega (arith, s.1))) (⊎_elim (λ e. (omega (arith, e), omega (arith, e))) (λ s. (omega (arith, s.0), omega (arith, s.1))))

  head : (y : List ℕ) → at (drop place y) 0 ≡ at y (place + 0)
  head y = get_or-drop place y 0 0

  pub fills_expression : Fills (expression place) (Span place 5) (λ y. expression_fits (drop place y) ≡ true)
  unfolding expression Joined
  fills_expression =
      fills_wider (span_region place 5) inside (λ y z s f. expression_same (drop place y) (drop place z) (tail_same y z place 5 s) ∙ f) fit
      (fills_then (fills_operand (place + 1) (omega (arith, h))) fills_joint apart)
    where
      fit : (y : List ℕ) → (operand_fits (drop (place + 1) y) ≡ true) × Joined y → ((i : ℕ) → Span place 5 i → (Whole i → ⊥) → at y i ≡ 0) → expression_fits (drop place y) ≡ true
      fit y q z =
          let l : operand_fits (drop 1 (drop place y)) ≡ true = ap operand_fits (drop-drop 1 place y) ∙ q.0 in
          ⊎_elim (λ j. expression_single (drop place y) (head y ∙ j.0) l (ap (λ (w : List ℕ). zeros w 2) (drop-drop 3 place y) ∙ j.1))
          (λ j. expression_pair (drop place y) (omega (arith, head y, j.0)) (omega (arith, head y, j.1)) l (ap operand_fits (drop-drop 3 place y) ∙ j.2))
          q.1

  -- ITEMS of a message: of one that is sent, and of a template
  item_local : (receives : ℕ) (y z : List ℕ) → ((i : ℕ) → Span place 5 i → at z i ≡ at y i) → item_fits receives (drop place y) ≡ true → item_fits receives (drop place z) ≡ true
  item_local receives y z s f = item_same (drop place y) (drop place z) receives (tail_same y z place 5 s) ∙ f

  pub fills_message_item : (receives : ℕ) → Fills (expression place) (Span place 5) (λ y. item_fits receives (drop place y) ≡ true)
  fills_message_item receives = fills_wider (span_region place 5) (λ i r. r) (item_local receives) (λ y q z. item_expression (drop place y) receives q) fills_expression

  abbrev Bound : ℕ → Type 0
  Bound = Both (λ i. i ≡ place + 0) (Both (λ i. i ≡ place + 1) (λ i. i ≡ place + 1 + 1))

  fills_bind : (receives : ℕ) → (receives ≡ none → ⊥) → Fills (bind place) (Span place 5) (λ y. item_fits receives (drop place y) ≡ true)
  unfolding bind
  fills_bind receives n =
      fills_wider (span_region place 5)
      (λ i. ⊎_elim (λ e. (omega (arith, e), omega (arith, e))) (⊎_elim (λ e. (omega (arith, e), omega (arith, e))) (λ e. (omega (arith, e), omega (arith, e)))))
      (item_local receives) fit
      (fills_then (fills_store (place + 0) 4 (omega (arith, h)) (omega arith))
      (fills_then (fills_store (place + 1) 1 (omega (arith, h)) (omega arith)) (fills_field (place + 1 + 1) (omega (arith, h))) (λ i e f. omega (arith, e, f)))
      (λ i e. ⊎_elim (λ f. omega (arith, e, f)) (λ f. omega (arith, e, f))))
    where
      fit : (y : List ℕ) → (at y (place + 0) ≡ 4) × ((at y (place + 1) ≡ 1) × Ranged 0 31 (place + 1 + 1) y) → ((i : ℕ) → Span place 5 i → (Bound i → ⊥) → at y i ≡ 0) → item_fits receives (drop place y) ≡ true
      fit y q z =
          let d : at (drop place y) 2 ≡ at y (place + 1 + 1) = get_or-drop place y 2 0 ∙ ap (at y) (let e : place + 2 ≡ place + 1 + 1 = omega arith in e) in
          item_bind (drop place y) receives n (head y ∙ q.0) (get_or-drop place y 1 0 ∙ q.1.0) (omega (arith, d, q.1.1.1))
          (ap (λ (w : List ℕ). zeros w 2) (drop-drop 3 place y)
          ∙ zeros_of y (place + 3) 2 (λ i a b. z i (omega (arith, a), omega (arith, b)) (⊎_elim (λ e. omega (arith, e, a)) (⊎_elim (λ e. omega (arith, e, a)) (λ e. omega (arith, e, a))))))

  pub fills_template_item : (receives : ℕ) → (receives ≡ none → ⊥) → Fills (template_item place) (Span place 5) (λ y. item_fits receives (drop place y) ≡ true)
  unfolding template_item
  fills_template_item receives n = fills_choice (code "?") (fills_bind receives n) (fills_message_item receives)

  -- CONDITIONS
  Compared : List ℕ → Type 0
  Compared y = (3 ≤ at y (place + 0)) × (at y (place + 0) ≤ 4) × (operand_fits (drop (place + 3) y) ≡ true)

  compared_local : (y z : List ℕ) → ((i : ℕ) → Right i → at z i ≡ at y i) → Compared y → Compared z
  unfolding Compared
  compared_local y z s j =
      let f : at z (place + 0) ≡ at y (place + 0) = s (place + 0) (inl refl) in
      (omega (arith, f, j.0), omega (arith, f, j.1), operand_same (drop (place + 3) y) (drop (place + 3) z) (tail_same y z (place + 3) 2 (λ i k. s i (inr k))) ∙ j.2)

  compared_pair : (v : ℕ) → 3 ≤ v → v ≤ 4 → Fills (store (place + 0) v then operand (place + 3)) Right Compared
  unfolding Compared
  compared_pair v l u = fills_wider right_region (λ i r. r) compared_local (λ y q z. (omega (arith, q.0, l), omega (arith, q.0, u), q.1)) (pair v (omega (arith, u)))

  fills_comparison : Fills (comparison place) Right Compared
  unfolding comparison
  fills_comparison = fills_choice (code "=") (compared_pair 3 (omega arith) (omega arith)) (fills_behind (idle_sign (code "<")) (compared_pair 4 (omega arith) (omega arith)))

  module _ (conditions : ℕ) where
    abbrev Fit : List ℕ → Type 0
    Fit y = condition_fits conditions (drop place y) ≡ true

    condition_local : (y z : List ℕ) → ((i : ℕ) → Span place 5 i → at z i ≡ at y i) → Fit y → Fit z
    condition_local y z s f = condition_same (drop place y) (drop place z) conditions (tail_same y z place 5 s) ∙ f

    compared_whole : Fills (operand (place + 1) then comparison place) (Span place 5) Fit
    unfolding Compared
    compared_whole =
        fills_wider (span_region place 5) inside condition_local
        (λ y q z. condition_pair (drop place y) conditions (omega (arith, head y, q.1.0)) (omega (arith, head y, q.1.1)) (ap operand_fits (drop-drop 1 place y) ∙ q.0) (ap operand_fits (drop-drop 3 place y) ∙ q.1.2))
        (fills_then (fills_operand (place + 1) (omega (arith, h))) fills_comparison apart)

    alone : (v : ℕ) → v ≤ greatest → ((x : List ℕ) → at x 0 ≡ v → zeros (drop 1 x) 4 ≡ true → condition_fits conditions x ≡ true) → Fills (store (place + 0) v) (Span place 5) Fit
    alone v g f =
        fills_wider (span_region place 5) (λ i e. (omega (arith, e), omega (arith, e))) condition_local
        (λ y q z. f (drop place y) (head y ∙ q) (ap (λ (w : List ℕ). zeros w 4) (drop-drop 1 place y) ∙ zeros_of y (place + 1) 4 (λ i a b. z i (omega (arith, a), omega (arith, b)) (λ e. omega (arith, e, a)))))
        (fills_store (place + 0) v (omega (arith, h)) g)

    pub fills_condition : (defaults : Bool) → (defaults ≡ true → conditions ≡ many) → Fills (condition defaults place) (Span place 5) Fit
    unfolding condition
    fills_condition defaults d =
        record {
          decide = span_region place 5;
          local = condition_local;
          fills = λ text x from q y e l o.
              go text x from q y l o (same_bytes (letters text from) (bytes "true")) (defaults && same_bytes (letters text from) (bytes "default")) (λ c. d (and_left defaults _ c))
              (word_passed (token_at text from).form _ misplaced (place_of text from) q x y e);
        }
      where
        go : (text x : List ℕ) (from q : ℕ) (y : List ℕ) → length x ≡ element_words → ((i : ℕ) → Span place 5 i → at x i ≡ 0) → (b c : Bool) → (c ≡ true → conditions ≡ many)
            → (if b then store (place + 0) 1 text (behind text from) x or_else if c then store (place + 0) 2 text (behind text from) x or_else (operand (place + 1) then comparison place) text from x) ≡ passed_to q y
            → Filled x y (Span place 5) Fit
        go text x from q y l o true c m e = (alone 1 (omega arith) (λ x. condition_plain x conditions)).fills text x (behind text from) q y (unfold if◌then◌or_else◌ in e) l o
        go text x from q y l o false true m e = (alone 2 (omega arith) (λ x. condition_default x conditions (m refl))).fills text x (behind text from) q y (unfold if◌then◌or_else◌ in e) l o
        go text x from q y l o false false m e = compared_whole.fills text x from q y (unfold if◌then◌or_else◌ in e) l o

-- AN ASSIGNMENT: a field and an expression
pub fills_assignment : (j : ℕ) → j < 4 → Fills (assignment j) (Span (assignment_place j) 6) (λ y. assignment_fits (drop (assignment_place j) y) ≡ true)
unfolding assignment
fills_assignment j h =
    fills_wider (span_region (assignment_place j) 6) (λ i. ⊎_elim (λ e. (omega (arith, e), omega (arith, e))) (λ s. (omega (arith, s.0), omega (arith, s.1))))
    (λ y z s f. assignment_same (drop (assignment_place j) y) (drop (assignment_place j) z) (tail_same y z (assignment_place j) 6 s) ∙ f)
    fit
    (fills_then (fills_field (assignment_place j) (omega (arith, h))) (fills_behind idle_assign (fills_expression (assignment_place j + 1) (omega (arith, h)))) (λ i e s. omega (arith, e, s.0)))
  where
    fit : (y : List ℕ) → Ranged 0 31 (assignment_place j) y × (expression_fits (drop (assignment_place j + 1) y) ≡ true)
        → ((i : ℕ) → Span (assignment_place j) 6 i → (Both (λ i. i ≡ assignment_place j) (Span (assignment_place j + 1) 5) i → ⊥) → at y i ≡ 0) → assignment_fits (drop (assignment_place j) y) ≡ true
    fit y q z =
        unfold assignment_fits in
        and_true (ltb (at (drop (assignment_place j) y) 0) fields_named) (expression_fits (drop 1 (drop (assignment_place j) y)))
        (lt-ltb (at (drop (assignment_place j) y) 0) fields_named (omega (arith, q.0.1, get_or-drop (assignment_place j) y 0 0 ∙ ap (at y) (let e : assignment_place j + 0 ≡ assignment_place j = omega arith in e))))
        (ap expression_fits (drop-drop 1 (assignment_place j) y) ∙ q.1)
