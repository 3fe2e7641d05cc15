-- An element that was read, by its kind: within its limits, in its own number of words. Assumes nothing.
use Prim.Native.Char.{code}
use Prim.Native.Nat.{ℕ, ◌+◌, ◌≤◌, ◌<◌}
use mathlib.Core.Path.{◌≡◌, ◌∙◌, refl, sym, ap}
use mathlib.Core.Bool.{Bool, true, false, not, ◌&&◌, false≢true}
use mathlib.Core.List.{List}
use native.Mathlib.Decide.{ℕ_discrete}
use native.Mathlib.Omega.{arith}
use lib.Dec.{eqb, ltb}
use lib.ListN.{length}
use borrow.Author.Tests.{ltb-true, eqb-false, not-true}
use Rattle.base_words.specs.All.{all}
use Rattle.base_words.specs.Pick.{if◌then◌or_else◌}
use Rattle.base_words.specs.Seek.{seek}
use Rattle.base_words.specs.Words.{at, greatest}
use Rattle.base_words.proofs.PickLaws.{and_true}
use Rattle.base_kinds.specs.Kinds.{kind_of}
use Rattle.base_table.specs.Places.{element_words, kind_place}
use Rattle.check_limits.specs.Limits.{parts_fit, element_fits}
use Rattle.text_lexer.specs.Lexer.{token_at}
use Rattle.text_readers.specs.Reading.{misplaced, passed_to, refused_at, place_of, behind, letters}
use Rattle.text_elements.specs.Elements.{kind_count, is_keyword, kind_named, blank, parts_of, element_of, element}
use Rattle.proof_roundtrip.specs.Trip.{spans, region_of}
use Rattle.proof_roundtrip.proofs.EndModels.{Right}
use Rattle.proof_roundtrip.proofs.BlankLaws.{blank_kind, blank-length, blank_zero}
use Rattle.proof_roundtrip.proofs.KindLaws.{of_kind_lem}
use Rattle.proof_roundtrip.proofs.FillLaws.{Fills, Filled, refused_passed, idle_sign, fills_before}
use Rattle.proof_roundtrip.proofs.WordFills.{word_passed}
use Rattle.proof_roundtrip.proofs.RowFills.{stores, Good, row_clear, row_suits, fills_row}
use Rattle.proof_roundtrip.proofs.ElementFills.{parts_right}

-- a row has a keyword, and no part of it stores the kind
row_letters : (k : ℕ) → 0 < k → k < kind_count + 1 → not (eqb (kind_of k).letters 0) ≡ true
unfolding all kind_of
row_letters k l u = of_kind_lem (λ j. not (eqb (kind_of j).letters 0)) refl k l u

row_kind : (k : ℕ) → 0 < k → k < kind_count + 1 → stores (kind_of k).parts kind_place ≡ false
unfolding all stores region_of spans kind_of if◌then◌or_else◌
row_kind k l u = not-true (stores (kind_of k).parts kind_place) (of_kind_lem (λ j. not (stores (kind_of j).parts kind_place)) refl k l u)

-- a keyword is one of fifteen
named_most : (w : List ℕ) → kind_named w < kind_count + 1
unfolding kind_named
named_most w = go (ltb (seek (is_keyword w) kind_count) kind_count) refl
  where
    go : (b : Bool) → ltb (seek (is_keyword w) kind_count) kind_count ≡ b → (if b then seek (is_keyword w) kind_count + 1 or_else 0) < kind_count + 1
    go true e = unfold if◌then◌or_else◌ in let l = ltb-true (seek (is_keyword w) kind_count) kind_count e in omega (arith, l)
    go false e = unfold if◌then◌or_else◌ in omega arith

module _ (k : ℕ) (l : 0 < k) (u : k < kind_count + 1) where
  fills_parts : Fills (parts_of k) (λ i. stores (kind_of k).parts i ≡ true) (Good (kind_of k) (kind_of k).parts)
  unfolding parts_of
  fills_parts = fills_before (fills_row (kind_of k) (code "(") (kind_of k).parts (row_clear k l u) (row_suits k l u)) (idle_sign (code ")"))

  stored_not : (i : ℕ) → stores (kind_of k).parts i ≡ true → i ≡ kind_place → ⊥
  stored_not i s e = false≢true (sym (row_kind k l u) ∙ ap (stores (kind_of k).parts) (sym e) ∙ s)

  right_parts : (text x : List ℕ) (from q : ℕ) (y : List ℕ) → length x ≡ element_words → parts_of k text from (blank k x) ≡ passed_to q y → Right y
  right_parts text x from q y n e = right (fills_parts.fills text (blank k x) from q y e (blank-length k x ∙ n) (λ i s. blank_zero k x i (stored_not i s)))
    where
      right : Filled (blank k x) y (λ i. stores (kind_of k).parts i ≡ true) (Good (kind_of k) (kind_of k).parts) → Right y
      right f = record { fits = fit; long = f.same_length ∙ blank-length k x ∙ n; small = λ i. tiny i (stores (kind_of k).parts i) refl (ℕ_discrete i 0) }
        where
          none : (i : ℕ) → stores (kind_of k).parts i ≡ false → stores (kind_of k).parts i ≡ true → ⊥
          none i a b = false≢true (sym a ∙ b)

          kind : at y kind_place ≡ k
          kind = f.others kind_place (none kind_place (row_kind k l u)) ∙ blank_kind k x n

          zero : (i : ℕ) → 0 < i → stores (kind_of k).parts i ≡ false → at y i ≡ 0
          zero i p s = f.others i (none i s) ∙ blank_zero k x i (λ e. omega (arith, e, p))

          tiny : (i : ℕ) (b : Bool) → stores (kind_of k).parts i ≡ b → Dec (i ≡ 0) → at y i ≤ greatest
          tiny i true s d = f.small i s
          tiny i false s (yes e) = let q = ap (at y) e ∙ kind in omega (arith, q, u)
          tiny i false s (no m) = let q = zero i (omega (arith, m)) s in omega (arith, q)

          fit : element_fits y ≡ true
          fit =
              unfold element_fits in
              ap (λ (j : ℕ). not (eqb (kind_of j).letters 0) && parts_fit (kind_of j) y) kind
              ∙ and_true (not (eqb (kind_of k).letters 0)) (parts_fit (kind_of k) y) (row_letters k l u) (parts_right k l u y f.good zero)

right_element : (k p : ℕ) (text x : List ℕ) (from q : ℕ) (y : List ℕ) → k < kind_count + 1 → length x ≡ element_words → element_of k p text from x ≡ passed_to q y → Right y
unfolding element_of
right_element k p text x from q y u n e = go (eqb k 0) refl e
  where
    go : (b : Bool) → eqb k 0 ≡ b → (if b then refused_at misplaced p (blank 0 x) or_else parts_of k text from (blank k x)) ≡ passed_to q y → Right y
    go true z e = absurd (refused_passed misplaced p q (blank 0 x) y (unfold if◌then◌or_else◌ in e))
    go false z e = let m = eqb-false k 0 z in right_parts k (omega (arith, m)) u text x from q y n (unfold if◌then◌or_else◌ in e)

-- THE LAW
pub element_right : (text x : List ℕ) (from q : ℕ) (y : List ℕ) → length x ≡ element_words → element text from x ≡ passed_to q y → Right y
unfolding element
element_right text x from q y n e =
    right_element (kind_named (letters text from)) (place_of text from) text x (behind text from) q y (named_most (letters text from)) n
    (word_passed (token_at text from).form _ misplaced (place_of text from) q (blank 0 x) y e)
