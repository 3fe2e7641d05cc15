-- Words raised by one at places that are apart, one after the other: none meets its end. Assumes nothing.
use Prim.Native.Nat.{ℕ, zero, suc, ◌+◌, ◌≤◌, ◌<◌}
use mathlib.Core.Path.{◌≡◌, refl, sym, ◌∙◌, ap, subst}
use mathlib.Core.List.{List}
use mathlib.Core.Logic.{⊎_elim}
use native.Mathlib.Nat.{not-suc-le-zero, le_of_suc-le-suc, eq-or-lt_of_le}
use native.Mathlib.Omega.{arith}
use lib.ListN.{length, set, length-set}
use lib.Seq.{get_or-set_same, get_or-set_other}
use Rattle.base_words.specs.Iter.{iter}
use Rattle.base_words.specs.Words.{at}
use Rattle.base_words.specs.Counts.{count_most}
use Rattle.meaning.specs.Changes.{more}
use Rattle.proof_steps.proofs.MadeAfter.{more_one}

module _ (place : ℕ → ℕ) where
  abbrev pub raise : ℕ → List ℕ → List ℕ
  raise j y = set y (place j) (more (at y (place j)))

  module _ (h : List ℕ) where
    length_raised : (n : ℕ) → length (iter raise h n) ≡ length h
    unfolding iter
    length_raised zero = refl
    length_raised (suc n) = length-set (iter raise h n) (place n) (more (at (iter raise h n) (place n))) ∙ length_raised n

    -- a place that is not touched
    pub raised_other : (n k : ℕ) → ((j : ℕ) → j < n → k ≡ place j → ⊥) → at (iter raise h n) k ≡ at h k
    unfolding iter
    raised_other zero k d = refl
    raised_other (suc n) k d =
        get_or-set_other (iter raise h n) (place n) k (more (at (iter raise h n) (place n))) 0 (d n (omega arith)) ∙ raised_other n k (λ j l. d j (omega arith))

    module _ (most : ℕ) (apart : (j k : ℕ) → j < most → k < most → (j ≡ k → ⊥) → place j ≡ place k → ⊥) (inside : (j : ℕ) → j < most → place j < length h) (room : (j : ℕ) → j < most → at h (place j) < count_most) where
      pub raised_one : (n : ℕ) → n ≤ most → (j : ℕ) → j < n → at (iter raise h n) (place j) ≡ at h (place j) + 1
      unfolding iter
      raised_one zero w j l = absurd (not-suc-le-zero l)
      raised_one (suc n) w j l =
          ⊎_elim
          (λ e. subst (λ y. at (iter raise h (suc n)) (place y) ≡ at h (place y) + 1) (sym e) last)
          (λ r.
          get_or-set_other (iter raise h n) (place n) (place j) (more (at (iter raise h n) (place n))) 0 (apart j n (omega arith) (omega arith) (λ e. omega arith))
          ∙ raised_one n (omega arith) j r)
          (eq-or-lt_of_le (le_of_suc-le-suc l))
        where
          same : at (iter raise h n) (place n) ≡ at h (place n)
          same = raised_other n (place n) (λ j l. apart n j (omega arith) (omega arith) (λ e. omega arith))

          last : at (iter raise h (suc n)) (place n) ≡ at h (place n) + 1
          last =
              let r : at h (place n) < count_most = room n (omega arith) in
              get_or-set_same (iter raise h n) (place n) (more (at (iter raise h n) (place n))) 0 (omega (arith, length_raised n, inside n (omega arith)))
              ∙ ap more same
              ∙ more_one (at h (place n)) r
