-- The table of kinds, read as a whole: its keywords name its rows, and each word of an element belongs to a part of its row or is unused by it. Assumes nothing.
use Prim.Native.Nat.{ℕ, ◌+◌, ◌-◌, ◌≤◌, ◌<◌}
use mathlib.Core.Path.{◌≡◌, ◌∙◌, refl, sym, ap}
use mathlib.Core.Bool.{Bool, true, not}
use native.Mathlib.Decide.{dec_lt, ℕ_discrete}
use native.Mathlib.Omega.{arith}
use lib.Dec.{eqb, ltb}
use lib.ListN.{length, get_or-eq_default}
use borrow.Author.Tests.{eqb-true, eqb-false, ltb-true, not-true}
use Rattle.base_words.specs.All.{all}
use Rattle.base_words.specs.Each.{each}
use Rattle.base_words.specs.Pick.{if◌then◌or_else◌}
use Rattle.base_words.specs.Seek.{seek}
use Rattle.base_words.proofs.AllLaws.{all_at}
use Rattle.base_kinds.specs.declared.Kind.{Kind}
use Rattle.base_kinds.specs.Kinds.{kinds, no_kind, kind_of, keyword_of}
use Rattle.text_lexer.specs.Lexer.{is_word}
use Rattle.base_bytes.specs.Bytes.{is_letter, is_digit, between}
use Rattle.base_bytes.specs.Bytes.{same_bytes}
use Rattle.text_elements.specs.Elements.{is_keyword, kind_named, kind_count}

-- a row with a keyword is one of the fifteen
pub kind_bounds : (k : ℕ) → not (eqb (kind_of k).letters 0) ≡ true → (0 < k) × (k < kind_count + 1)
unfolding kind_of
kind_bounds k h = (low (ℕ_discrete k 0), high (dec_lt k 16))
  where
    n : (kind_of k).letters ≡ 0 → ⊥
    n = eqb-false (kind_of k).letters 0 (not-true (eqb (kind_of k).letters 0) h)

    low : Dec (k ≡ 0) → 0 < k
    low (yes e) = absurd (n (ap (λ (j : ℕ). (kind_of j).letters) e))
    low (no m) = omega (arith, m)

    high : Dec (k < 16) → k < kind_count + 1
    high (yes l) = l
    high (no l) = absurd (n (ap (λ (r : Kind). r.letters) (get_or-eq_default kinds no_kind (let z : length kinds ≤ k = omega (arith, l) in z))))

-- what a test on all fifteen rows says of one of them
pub of_kind_lem : (f : ℕ → Bool) → all (λ j. f (j + 1)) kind_count ≡ true → (k : ℕ) → 0 < k → k < kind_count + 1 → f k ≡ true
of_kind_lem f h k l u =
    let e : k - 1 + 1 ≡ k = omega (arith, l) in
    ap f (sym e) ∙ all_at (λ j. f (j + 1)) kind_count h (k - 1) (omega (arith, l, u))

-- A KEYWORD is a word, and names its row
pub keyword_names : (k : ℕ) → 0 < k → k < kind_count + 1 → kind_named (keyword_of k) ≡ k
unfolding all kind_named is_keyword same_bytes seek kind_of if◌then◌or_else◌
keyword_names k l u = eqb-true (kind_named (keyword_of k)) k (of_kind_lem (λ j. eqb (kind_named (keyword_of j)) j) refl k l u)

pub keyword_word : (k : ℕ) → 0 < k → k < kind_count + 1 → each is_word (keyword_of k) ≡ true
unfolding all each is_word is_letter is_digit between kind_of
keyword_word k l u = of_kind_lem (λ j. each is_word (keyword_of j)) refl k l u

pub keyword_some : (k : ℕ) → 0 < k → k < kind_count + 1 → 0 < length (keyword_of k)
unfolding all kind_of
keyword_some k l u = ltb-true 0 (length (keyword_of k)) (of_kind_lem (λ j. ltb 0 (length (keyword_of j))) refl k l u)
