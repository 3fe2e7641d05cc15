-- The rows of the table of kinds: which parts stand in one, in which order, and which words of an element no part of its row stores. Assumes nothing.
use Prim.Native.Char.{code}
use Prim.Native.Nat.{ℕ, ◌+◌, ◌<◌}
use mathlib.Core.Path.{◌≡◌, refl}
use mathlib.Core.Bool.{Bool, true, false, not, ◌&&◌, ◌||◌}
use mathlib.Core.List.{List, [], ◌∷◌}
use mathlib.Core.Logic.{◌⊎◌, inl, inr}
use lib.Dec.{eqb, ltb}
use lib.ListN.{length}
use borrow.Author.Tests.{eqb-true}
use Rattle.std.proofs.lemmas.Bool.{or_cases}
use Rattle.base_words.specs.All.{all}
use Rattle.base_words.specs.Pick.{if◌then◌or_else◌}
use Rattle.base_kinds.specs.Kinds.{kind_of, one, many}
use Rattle.text_elements.specs.Elements.{kind_count}
use Rattle.proof_roundtrip.proofs.KindLaws.{of_kind_lem}

-- a part's code stands in a row, before its blanks
unfoldable pub listed : List ℕ → ℕ → Bool
listed [] d = false
listed (c ∷ cs) d = if eqb c (code " ") then false or_else eqb d c || listed cs d

-- no part stands here; branches that receive are the last part of a row
unfoldable pub bare : List ℕ → Bool
bare [] = true
bare (c ∷ cs) = eqb c (code " ")

unfoldable pub lastly : List ℕ → Bool
lastly [] = true
lastly (c ∷ cs) = if eqb c (code " ") then true or_else (not (eqb c (code "B")) || bare cs) && lastly cs

pub row_lastly : (k : ℕ) → 0 < k → k < kind_count + 1 → lastly (kind_of k).parts ≡ true
unfolding all lastly bare kind_of if◌then◌or_else◌
row_lastly k l u = of_kind_lem (λ j. lastly (kind_of j).parts) refl k l u

pub row_length : (k : ℕ) → 0 < k → k < kind_count + 1 → length (kind_of k).parts ≡ 4
unfolding all kind_of
row_length k l u = eqb-true (length (kind_of k).parts) 4 (of_kind_lem (λ j. eqb (length (kind_of j).parts) 4) refl k l u)

-- WHAT A ROW HAS, or what its cell says where it has not
abbrev pub Has : ℕ → ℕ → Type 0
Has k c = listed (kind_of k).parts c ≡ true

abbrev pub has : ℕ → ℕ → Bool
has k c = listed (kind_of k).parts c

-- one of two parts, of three, of four, or a test
abbrev pub Either : ℕ → List ℕ → Type 0 → Type 0
Either k [] P = P
Either k (c ∷ cs) P = Has k c ⊎ Either k cs P

abbrev pub either : ℕ → List ℕ → Bool → Bool
either k [] b = b
either k (c ∷ cs) b = has k c || either k cs b

pub either_of : (k : ℕ) (cs : List ℕ) (b : Bool) → either k cs b ≡ true → Either k cs (b ≡ true)
either_of k [] b e = e
either_of k (c ∷ cs) b e = go (or_cases (has k c) (either k cs b) e) (either_of k cs b)
  where
    go : (has k c ≡ true) ⊎ (either k cs b ≡ true) → (either k cs b ≡ true → Either k cs (b ≡ true)) → Either k (c ∷ cs) (b ≡ true)
    go (inl h) f = inl h
    go (inr h) f = inr (f h)

module _ (k : ℕ) (l : 0 < k) (u : k < kind_count + 1) where
  pub row_task : Either k (code "N" ∷ []) (not (eqb (kind_of k).task one) ≡ true)
  unfolding all listed kind_of if◌then◌or_else◌
  row_task = either_of k (code "N" ∷ []) _ (of_kind_lem (λ j. either j (code "N" ∷ []) (not (eqb (kind_of j).task one))) refl k l u)

  pub row_entries : Either k (code "E" ∷ code "F" ∷ []) (eqb (kind_of k).entries 0 ≡ true)
  unfolding all listed kind_of if◌then◌or_else◌
  row_entries = either_of k (code "E" ∷ code "F" ∷ []) _ (of_kind_lem (λ j. either j (code "E" ∷ code "F" ∷ []) (eqb (kind_of j).entries 0)) refl k l u)

  pub row_exits : Either k (code "X" ∷ code "Y" ∷ code "G" ∷ code "B" ∷ []) (eqb (kind_of k).exits 0 ≡ true)
  unfolding all listed kind_of if◌then◌or_else◌
  row_exits = either_of k (code "X" ∷ code "Y" ∷ code "G" ∷ code "B" ∷ []) _ (of_kind_lem (λ j. either j (code "X" ∷ code "Y" ∷ code "G" ∷ code "B" ∷ []) (eqb (kind_of j).exits 0)) refl k l u)

  pub row_condition : Either k (code "N" ∷ code "G" ∷ []) (eqb (kind_of k).conditions 0 ≡ true)
  unfolding all listed kind_of if◌then◌or_else◌
  row_condition = either_of k (code "N" ∷ code "G" ∷ []) _ (of_kind_lem (λ j. either j (code "N" ∷ code "G" ∷ []) (eqb (kind_of j).conditions 0)) refl k l u)

  pub row_conditions : Either k (code "G" ∷ []) (ltb (kind_of k).conditions many ≡ true)
  unfolding all listed kind_of if◌then◌or_else◌
  row_conditions = either_of k (code "G" ∷ []) _ (of_kind_lem (λ j. either j (code "G" ∷ []) (ltb (kind_of j).conditions many)) refl k l u)

  pub row_message : Either k (code "T" ∷ code "S" ∷ code "B" ∷ []) (eqb ((kind_of k).receives + (kind_of k).sends) 0 ≡ true)
  unfolding all listed kind_of if◌then◌or_else◌
  row_message = either_of k (code "T" ∷ code "S" ∷ code "B" ∷ []) _ (of_kind_lem (λ j. either j (code "T" ∷ code "S" ∷ code "B" ∷ []) (eqb ((kind_of j).receives + (kind_of j).sends) 0)) refl k l u)

  pub row_messages : Either k (code "B" ∷ []) (ltb ((kind_of k).receives + (kind_of k).sends) many ≡ true)
  unfolding all listed kind_of if◌then◌or_else◌
  row_messages = either_of k (code "B" ∷ []) _ (of_kind_lem (λ j. either j (code "B" ∷ []) (ltb ((kind_of j).receives + (kind_of j).sends) many)) refl k l u)
