-- What a loop that looks for the first needs of `seek`, and what its callers learn. Assumes nothing.
use mathlib.Core.Path.{◌≡◌, ◌∙◌, refl, sym, subst}
use mathlib.Core.Bool.{Bool, true, false, cond}
use mathlib.Core.Logic.{⊎_elim}
use Prim.Native.Nat.{ℕ, zero, suc, ◌+◌, ◌≤◌, ◌<◌}
use native.Mathlib.Nat.{not-suc-le-zero, le_of_suc-le-suc, eq-or-lt_of_le, le_antisymm}
use native.Mathlib.Numerals.{add-one}
use native.Mathlib.Omega.{arith}
use lib.Dec.{ltb}
use borrow.Author.Tests.{lt-ltb, le-ltb, eq-eqb, ne_eqb, ltb-true, ltb-false}
use Rattle.base_words.specs.Seek.{seek}

module _ (f : ℕ → Bool) where
  pub seek_none : seek f 0 ≡ 0
  unfolding seek
  seek_none = refl

  pub seek_more : (i : ℕ) → seek f i ≡ i → f i ≡ false → seek f (i + 1) ≡ i + 1
  unfolding seek
  seek_more i p q = rw (add-one, seek, le-ltb (seek f i) i (omega arith), q)

  -- once found, found
  kept : (n : ℕ) → seek f n < n → seek f (suc n) ≡ seek f n
  unfolding seek
  kept n h = rw (lt-ltb (seek f n) n h)

  seek_at : (n i : ℕ) → i < n → seek f i ≡ i → f i ≡ true → seek f n ≡ i
  unfolding seek
  seek_at zero i h p q = absurd (not-suc-le-zero h)
  seek_at (suc n) i h p q =
      ⊎_elim (λ e. let p' : seek f n ≡ n = subst (λ (k : ℕ). seek f k ≡ k) e p in let q' : f n ≡ true = subst (λ (k : ℕ). f k ≡ true) e q in
      rw (le-ltb (seek f n) n (omega arith), q') (sym e))
      (λ lt. let ih : seek f n ≡ i = seek_at n i lt p q in kept n (omega arith) ∙ ih)
      (eq-or-lt_of_le (le_of_suc-le-suc h))

  pub seek_found : (n i : ℕ) → i < n → seek f i ≡ i → f i ≡ true → i ≡ seek f n
  seek_found n i h p q = sym (seek_at n i h p q)

  pub seek_done : (n i : ℕ) → n ≤ i → i ≤ n → seek f i ≡ i → i ≡ seek f n
  seek_done n i h k p = let e : i ≡ n = le_antisymm k h in e ∙ sym (subst (λ (j : ℕ). seek f j ≡ j) e p)

  -- what is known of s, the first below n
  abbrev Sought : ℕ → ℕ → Type 0
  Sought n s = (s ≤ n) × (s < n → f s ≡ true) × ((j : ℕ) → j < s → f j ≡ false)

  pub sought : (n : ℕ) → Sought n (seek f n)
  unfolding seek
  sought zero = (omega arith, (λ h. absurd (not-suc-le-zero h)), (λ j h. absurd (not-suc-le-zero h)))
  sought (suc n) = go (ltb (seek f n) n) refl (f n) refl (sought n)
    where
      go : (b : Bool) → ltb (seek f n) n ≡ b → (c : Bool) → f n ≡ c → Sought n (seek f n) → Sought (suc n) (cond b (seek f n) (cond c n (suc n)))
      go true e c g ih = let l = ltb-true (seek f n) n e in (omega (arith, l), (λ h. ih.1 l), ih.2)
      go false e true g ih = let m : seek f n ≡ n = omega (arith, ltb-false (seek f n) n e, ih.0) in (omega arith, (λ h. g), (λ j h. ih.2 j (omega arith)))
      go false e false g ih =
          let m : seek f n ≡ n = omega (arith, ltb-false (seek f n) n e, ih.0) in
          (omega arith, (λ h. absurd (omega arith)), (λ j h. ⊎_elim (λ q. subst (λ (k : ℕ). f k ≡ false) (sym q) g) (λ lt. ih.2 j (omega arith)) (eq-or-lt_of_le (le_of_suc-le-suc h))))

pub ruleset seek_loop = (seek_none, seek_more, seek_found, seek_done, eq-eqb, ne_eqb)
